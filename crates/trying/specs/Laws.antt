-- What the proofs cite.
use Rattle.std.specs.Prelude.{ℕ, ◌+◌, ◌*◌, ◌/◌, ◌≤◌, ◌<◌, ◌≡◌, refl, Bool, true, false, Option, Some, None, Result, Ok, Err, cond, List, [], ◌∷◌, length, take, drop, set, get_or, replicate, ltb, eqb}
use Rattle.std.proofs.Common.{sym, ◌∙◌, arith, add-one, length-set, drop_of_length-le, drop-cons, ltb-true, ltb-false, eq-eqb, ne_eqb}
use Rattle.std.proofs.Math.Path.{ap}
use Rattle.std.proofs.lemmas.List.Edits.{sets}
use Rattle.std.proofs.Math.Seq.{length-sets}
use Rattle.std.specs.Result.{result_ok}
use Rattle.answers.specs.Said.{Said, refused, says}
use Rattle.text.specs.declared.Opening.{Opening}
use Rattle.text.specs.declared.Event.{Event}
use Rattle.text.specs.Answer as answer
use Rattle.loglines.specs.Ink.{Page, ink_one, ink}
use Rattle.loglines.specs.Lines.{text_line, refusal_line}
use Rattle.answers.specs.declared.Refusal.{Refusal}
use Rattle.outcomes.specs.Lines.{written_of, put_lines, counted_text}
use Rattle.tasks.specs.Tasks as task
use Rattle.tasks.specs.Tasks.{task_reading, task_of, all_words}
use Rattle.tasks.specs.Laws.{task_read}
use Rattle.tries.specs.Tries.{why, sizes, operations, texts, joined, more_than, listed_in, tries_of, tally_of}
use Rattle.trying.specs.declared.Asked.{Asked}
use Rattle.trying.specs.declared.Asked.TheVariants.{Schedules, Outcomes}
use Rattle.trying.specs.Bounds.{digit_on, go_on, number_from, bound_in}
use Rattle.trying.specs.Trying.{
  Told,
  pen_says,
  laid,
  refused_told,
  tried_told,
  list_told,
  read_told,
  task_told,
  schedules_told,
  number_told,
  count_told,
  outcomes_told,
  asked_of,
  asked_told,
}
use Rattle.trying.specs.InRoom.{InRoom}

-- ---- the bound

pub bound_none : (bs : List ℕ) → length bs ≡ 0 → bound_in bs ≡ None
unfolding bound_in
bound_none [] h = refl
bound_none (b ∷ bs) h = absurd (omega arith)

pub bound_some : (bs : List ℕ) → (length bs ≡ 0 → ⊥) → bound_in bs ≡ number_from 0 bs
unfolding bound_in
bound_some [] h = absurd (h refl)
bound_some (b ∷ bs) h = refl

pub number_more : (n i : ℕ) (bs : List ℕ) (r : Option ℕ) → i < length bs → r ≡ digit_on n (get_or bs i 0)
    → number_from n (drop i bs) ≡ go_on r (λ m. number_from m (drop (i + 1) bs))
unfolding number_from
number_more n i bs r h e = rw (drop-cons bs i 0 h, sym e, add-one)

pub number_all : (n i : ℕ) (bs : List ℕ) → length bs ≤ i → number_from n (drop i bs) ≡ Some n
unfolding number_from
number_all n i bs h = rw (drop_of_length-le bs {i = i} h)

-- ---- what is told

abbrev pub written_says : Result ℕ Refusal → Said (ℕ × Bool)
written_says (Ok n) = says (n, false)
written_says (Err r) = refused 12

pub ok_says : (w : Result ℕ Refusal) → pen_says (result_ok w) ≡ written_says w
ok_says (Ok n) = refl
ok_says (Err r) = refl

pub laid_is : {pen : Option ℕ} {after : List ℕ} {said : Said (ℕ × Bool)} (line room : List ℕ) → ink (Some 0, room) line ≡ (pen, after)
    → said ≡ pen_says pen → laid line room ≡ (said, after)
unfolding laid
laid_is line room e f = rw (e, f)

pub refused_room : (number : ℕ) (room : List ℕ) → number ≡ 12 → refused_told number room ≡ (refused 12, room)
unfolding refused_told
refused_room number room e = rw (eq-eqb number 12 e)

pub refused_line : {x : Told} (number : ℕ) (room : List ℕ) → (number ≡ 12 → ⊥) → laid (refusal_line 0 number) room ≡ x
    → refused_told number room ≡ x
unfolding refused_told
refused_line number room n e = rw (ne_eqb number 12 n) e

pub tried_says : {t : Said (ℕ × (ℕ × Bool)) × List ℕ} {x : ℕ × (ℕ × Bool)} {room : List ℕ} → t ≡ (says x, room)
    → tried_told t ≡ (says x.1, room)
unfolding tried_told
tried_says e = rw e

pub tried_refused : {t : Said (ℕ × (ℕ × Bool)) × List ℕ} {number : ℕ} {room : List ℕ} {x : Told} → t ≡ (refused number, room)
    → refused_told number room ≡ x → tried_told t ≡ x
unfolding tried_told
tried_refused e f = rw e f

-- ---- a task that was read, or refused

pub task_fits : (text ops after : List ℕ) (o : Opening) (n : ℕ) → 24 ≤ length ops → task_of text ops ≡ (answer.gives o, after)
    → n ≡ o.events → 4 * n ≤ length after
task_fits text ops after o n h e f = let t = task_read text ops after o h e in omega (arith, t.six, t.long, f)

pub task_told_holds : (told : Opening → List ℕ → Told) (text ops after room : List ℕ) (o : Opening) (n : ℕ) (x : Told) → 24 ≤ length ops
    → task_of text ops ≡ (answer.gives o, after) → n ≡ o.events → told o (take (4 * n) after) ≡ x → task_told told text room ≡ x
unfolding read_told
task_told_holds told text ops after room o n x h e f g =
    let t = task_read text ops after o h e in
    let words : take (4 * n) after ≡ all_words t.es = ap (λ (k : ℕ). take (4 * k) after) f ∙ t.words in
    rw (t.reading, sym words) g

task_wrong : (text ops after : List ℕ) (number : ℕ) (values : List ℕ) → task_of text ops ≡ (answer.refuses number values, after)
    → task_reading text ≡ answer.refuses number values
unfolding task_of task.laid
task_wrong text ops after number values e = by (task_reading text) e
  where
    by : (a : answer.Answer (Opening × List Event)) → task.laid ops a ≡ (answer.refuses number values, after)
        → a ≡ answer.refuses number values
    by (answer.gives x) f =
        let g : ◌≡◌ {A = answer.Answer Opening} (answer.gives x.0) (answer.refuses number values) = ap (λ u. u.0) f in
        let z : ◌≡◌ {A = ℕ} 0 1 = cc in absurd (omega arith)
    by (answer.refuses m w) f =
        let g : ◌≡◌ {A = answer.Answer Opening} (answer.refuses m w) (answer.refuses number values) = ap (λ u. u.0) f in
        let x : m ≡ number = cc in let y : w ≡ values = cc in rw (x, y)

pub wrong_told : (told : Opening → List ℕ → Told) (text ops after room : List ℕ) (line : ℕ) (x : Told)
    → task_of text ops ≡ (answer.refuses 13 (line ∷ []), after) → laid (text_line line) room ≡ x → task_told told text room ≡ x
unfolding read_told
wrong_told told text ops after room line x e f = rw (task_wrong text ops after 13 (line ∷ []) e) f

pub refused_told_holds : (told : Opening → List ℕ → Told) (text ops after room : List ℕ) (number : ℕ) (x : Told)
    → task_of text ops ≡ (answer.refuses number [], after) → refused_told number room ≡ x → task_told told text room ≡ x
unfolding read_told
refused_told_holds told text ops after room number x e f = rw (task_wrong text ops after number [] e) f

-- ---- the outcomes

lines_laid : (room text after : List ℕ) (w : Result ℕ Refusal) → put_lines room text ≡ (w, after) → laid text room ≡ (written_says w, after)
unfolding put_lines laid
lines_laid room text after w e = by (ink (Some 0, room) text) e
  where
    by : (x : Page) → ◌≡◌ {A = Result ℕ Refusal × List ℕ} (written_of x.0, x.1) (w, after)
        → ◌≡◌ {A = Told} (pen_says x.0, x.1) (written_says w, after)
    by (Some n, r) f = ap (λ (u : Result ℕ Refusal × List ℕ). (written_says u.0, u.1)) f
    by (None, r) f = ap (λ (u : Result ℕ Refusal × List ℕ). (written_says u.0, u.1)) f

module _ (o : Opening) (ws ts room after : List ℕ) where
  abbrev tally : Said ℕ × List ℕ
  tally = tally_of o.levels o.queues o.nodes ws (replicate 5122 0)

  pub count_lines : (n : ℕ) (w : Result ℕ Refusal) → tally ≡ (says n, ts) → put_lines room (counted_text n ts o.queues) ≡ (w, after)
      → count_told room o ws ≡ (written_says w, after)
  unfolding number_told
  count_lines n w e f = ap (number_told o.queues room) e ∙ lines_laid room (counted_text n ts o.queues) after w f

  pub count_refused : {said : Said (ℕ × Bool)} (number : ℕ) → tally ≡ (refused number, ts) → refused_told number room ≡ (said, after)
      → count_told room o ws ≡ (said, after)
  unfolding number_told
  count_refused number e f = ap (number_told o.queues room) e ∙ f

-- ---- the bytes are in the room

abbrev Within : Page → Type 0
Within (Some n, room) = n ≤ length room
Within (None, room) = Unit {0}

one_within : (x : Page) (b : ℕ) → Within x → Within (ink_one x b)
unfolding ink_one
one_within (Some at, room) b h = by (ltb at (length room)) refl
  where
    by : (t : Bool) → ltb at (length room) ≡ t → Within (cond t (Some (at + 1), set room at b) (None, room))
    by true e = rw length-set (omega (arith, ltb-true at (length room) e))
    by false e = tt
one_within (None, room) b h = tt

ink_within : (bs : List ℕ) (x : Page) → Within x → Within (ink x bs)
unfolding ink
ink_within [] x h = h
ink_within (b ∷ bs) x h = ink_within bs (ink_one x b) (one_within x b h)

laid_in : (line room : List ℕ) → InRoom (laid line room).0 (length (laid line room).1)
unfolding laid
laid_in line room = by (ink (Some 0, room) line) (ink_within line (Some 0, room) (omega arith))
  where
    by : (x : Page) → Within x → InRoom (pen_says x.0) (length x.1)
    by (Some n, r) w = w
    by (None, r) w = tt

refused_in : (number : ℕ) (room : List ℕ) → InRoom (refused_told number room).0 (length (refused_told number room).1)
unfolding refused_told
refused_in number room = by (eqb number 12)
  where
    told : Bool → Told
    told t = cond t (refused 12, room) (laid (refusal_line 0 number) room)

    by : (t : Bool) → InRoom (told t).0 (length (told t).1)
    by true = tt
    by false = laid_in (refusal_line 0 number) room

listed_in_holds : (ts : List (List ℕ)) (bound : ℕ) (room : List ℕ)
    → InRoom (tried_told (listed_in ts bound room)).0 (length (tried_told (listed_in ts bound room)).1)
unfolding listed_in tried_told
listed_in_holds ts bound room = by (ltb (length room) (length j)) refl
  where
    j : List ℕ
    j = joined (take bound ts)

    listed : Bool → Said (ℕ × (ℕ × Bool)) × List ℕ
    listed t = cond t (refused 12, room) (says (length (take bound ts), (length j, more_than bound ts)), sets room 0 j)

    by : (t : Bool) → ltb (length room) (length j) ≡ t → InRoom (tried_told (listed t)).0 (length (tried_told (listed t)).1)
    by true e = refused_in 12 room
    by false e = rw length-sets (ltb-false (length room) (length j) e)

tries_in : (l q n : ℕ) (ws : List ℕ) (bound : ℕ) (room : List ℕ)
    → InRoom (tried_told (tries_of l q n ws bound room)).0 (length (tried_told (tries_of l q n ws bound room)).1)
unfolding tries_of tried_told
tries_in l q n ws bound room = by (eqb number 0)
  where
    number : ℕ
    number = why (sizes l q n) (length ws / 4)

    tried : Bool → Said (ℕ × (ℕ × Bool)) × List ℕ
    tried t = cond t (listed_in (texts (sizes l q n) (operations ws)) bound room) (refused number, room)

    by : (t : Bool) → InRoom (tried_told (tried t)).0 (length (tried_told (tried t)).1)
    by true = listed_in_holds (texts (sizes l q n) (operations ws)) bound room
    by false = refused_in number room

task_in : (told : Opening → List ℕ → Told) → ((o : Opening) (ws : List ℕ) → InRoom (told o ws).0 (length (told o ws).1))
    → (text room : List ℕ) → InRoom (task_told told text room).0 (length (task_told told text room).1)
unfolding read_told
task_in told h text room = by (task_reading text)
  where
    by : (a : answer.Answer (Opening × List Event)) → InRoom (read_told told room a).0 (length (read_told told room a).1)
    by (answer.gives x) = h x.0 (all_words x.1)
    by (answer.refuses number []) = refused_in number room
    by (answer.refuses number (line ∷ values)) = laid_in (text_line line) room

count_in : (room : List ℕ) (o : Opening) (ws : List ℕ) → InRoom (count_told room o ws).0 (length (count_told room o ws).1)
unfolding number_told
count_in room o ws = by (tally_of o.levels o.queues o.nodes ws (replicate 5122 0))
  where
    by : (x : Said ℕ × List ℕ) → InRoom (number_told o.queues room x).0 (length (number_told o.queues room x).1)
    by (says n, ts) = laid_in (counted_text n ts o.queues) room
    by (refused number, ts) = refused_in number room

-- the same of what was told
pub schedules_within : {said : Said (ℕ × Bool)} {after : List ℕ} (text : List ℕ) (bound : ℕ) (room : List ℕ)
    → schedules_told text bound room ≡ (said, after) → InRoom said (length after)
schedules_within text bound room e =
    rw e at (task_in (list_told bound room) (λ o ws. tries_in o.levels o.queues o.nodes ws bound room) text room)

pub outcomes_within : {said : Said (ℕ × Bool)} {after : List ℕ} (text room : List ℕ) → outcomes_told text room ≡ (said, after)
    → InRoom said (length after)
outcomes_within text room e = rw e at (task_in (count_told room) (count_in room) text room)

asked_in : (asked : Asked) (room : List ℕ) (o : Opening) (ws : List ℕ)
    → InRoom (asked_of asked room o ws).0 (length (asked_of asked room o ws).1)
asked_in (Schedules bound) room o ws = tries_in o.levels o.queues o.nodes ws bound room
asked_in Outcomes room o ws = count_in room o ws

pub asked_within : {said : Said (ℕ × Bool)} {after : List ℕ} (asked : Asked) (text room : List ℕ) → asked_told asked text room ≡ (said, after)
    → InRoom said (length after)
asked_within asked text room e = rw e at (task_in (asked_of asked room) (asked_in asked room) text room)
