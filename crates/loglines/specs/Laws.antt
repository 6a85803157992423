-- Writing piece after piece writes the log.
use Rattle.std.specs.Prelude.{ℕ, suc, ◌+◌, ◌≤◌, ◌<◌, ◌≡◌, refl, List, [], ◌∷◌, ◌++◌, length, take, drop, get_or, Some}
use Rattle.std.proofs.Common.{sym, ap, ◌∙◌, append_assoc, append-nil, arith, zero-add, add-zero, add-one, length-append, drop_of_length-le, drop-cons, length-take-le, get_or-take, lt-ltb}
use Rattle.std.proofs.lemmas.List.{take_more}
use Rattle.std.proofs.lemmas.List.Edits.{sets-eq}
use Rattle.std.proofs.Math.Seq.{set-append_seam, take-append_seam}
use Rattle.heads.specs.Put.{Put}
use Rattle.decimals.specs.Decimals.{digits_of}
use Rattle.text.specs.Text.{space}
use Rattle.loglines.specs.Lines.{nodes_text}
use Rattle.loglines.specs.declared.Sheet.{Sheet}
use Rattle.loglines.specs.Ink.{Page, ink_one, ink, Writes}

pub ink_append : (x : Page) (bs cs : List ℕ) → ink x (bs ++ cs) ≡ ink (ink x bs) cs
unfolding ink
ink_append x [] cs = refl
ink_append x (b ∷ bs) cs = ink_append (ink_one x b) bs cs

pub ink_then : {y z : Page} (x : Page) (bs cs : List ℕ) → ink x bs ≡ y → ink y cs ≡ z → ink x (bs ++ cs) ≡ z
ink_then x bs cs e f = ink_append x bs cs ∙ rw e f

-- ---- a sheet that is written

pub writes_none : (p : Sheet) → Writes p p []
unfolding ink
writes_none p = record { same_room = refl; inked = refl }

-- one piece, and then another
pub writes_then : {p q r : Sheet} (bs cs : List ℕ) → Writes p q bs → Writes q r cs → Writes p r (bs ++ cs)
writes_then bs cs x y = record { same_room = y.same_room ∙ x.same_room; inked = ink_then _ bs cs x.inked y.inked }

-- one byte more of those that a loop writes
pub writes_more : {p q r : Sheet} (bs : List ℕ) (i : ℕ) → i < length bs → Writes p q (take i bs) → Writes q r (get_or bs i 0 ∷ [])
    → Writes p r (take (i + 1) bs)
writes_more bs i h x y = rw (take_more bs i 0 h) (writes_then _ _ x y)

nodes_append : (ns : List ℕ) (n : ℕ) → nodes_text (ns ++ (n ∷ [])) ≡ nodes_text ns ++ ((space ∷ []) ++ digits_of n)
unfolding nodes_text
nodes_append [] n = ap (λ (w : List ℕ). space ∷ w) (append-nil (digits_of n))
nodes_append (m ∷ ns) n = simp (nodes_append ns n, append_assoc)

-- one node more
pub writes_node : {p q r s : Sheet} (ns : List ℕ) (i : ℕ) → i < length ns → Writes p q (nodes_text (take i ns)) → Writes q r (space ∷ [])
    → Writes r s (digits_of (get_or ns i 0)) → Writes p s (nodes_text (take (i + 1) ns))
writes_node ns i h x y z =
    rw (take_more ns i 0 h, nodes_append (take i ns) (get_or ns i 0)) (writes_then _ _ x (writes_then _ _ y z))

-- ---- what is left to write: a loop over the bytes of a piece, or over nodes, writes one more of it, or none

pub ink_more : {y : Page} (x : Page) (bs : List ℕ) (i : ℕ) → i < length bs → ink_one x (get_or bs i 0) ≡ y
    → ink x (drop i bs) ≡ ink y (drop (i + 1) bs)
unfolding ink
ink_more x bs i h e = ap (ink x) (drop-cons bs i 0 h) ∙ ap (λ (w : Page). ink w (drop (suc i) bs)) e ∙ rw add-one

pub ink_none : (x : Page) (bs : List ℕ) (i : ℕ) → length bs ≤ i → ink x (drop i bs) ≡ x
unfolding ink
ink_none x bs i h = rw (drop_of_length-le bs {i = i} h)

nodes_first : {y z : Page} (x : Page) (v : ℕ) (ns : List ℕ) → ink_one x space ≡ y → ink y (digits_of v) ≡ z
    → ink x (nodes_text (v ∷ ns)) ≡ ink z (nodes_text ns)
unfolding ink nodes_text
nodes_first x v ns e f =
    ap (λ (w : Page). ink w (digits_of v ++ nodes_text ns)) e
    ∙ ink_append _ (digits_of v) (nodes_text ns)
    ∙ ap (λ (w : Page). ink w (nodes_text ns)) f

pub nodes_more : {y z : Page} (x : Page) (ns : List ℕ) (n i : ℕ) → i < n → n ≤ length ns
    → ink_one x space ≡ y → ink y (digits_of (get_or ns i 0)) ≡ z
    → ink x (nodes_text (drop i (take n ns))) ≡ ink z (nodes_text (drop (i + 1) (take n ns)))
nodes_more x ns n i h l e f =
    let in_part : i < length (take n ns) = rw length-take-le h in
    let same : get_or ns i 0 ≡ get_or (take n ns) i 0 = sym (get_or-take n ns i 0 h) in
    ap (λ (ms : List ℕ). ink x (nodes_text ms)) (drop-cons (take n ns) i 0 in_part)
    ∙ nodes_first x _ _ e (rw same at f) ∙ rw add-one

pub nodes_none : (x : Page) (ns : List ℕ) (n i : ℕ) → n ≤ i → n ≤ length ns → ink x (nodes_text (drop i (take n ns))) ≡ x
unfolding ink nodes_text
nodes_none x ns n i h l = let past : length (take n ns) ≤ i = rw length-take-le h in rw (drop_of_length-le (take n ns) {i = i} past)

-- ---- into room

-- the digits that were written at the start of a room
pub digits_put : (w n : ℕ) (room after : List ℕ) → Put w after room 0 (digits_of n) → length (digits_of n) ≤ length room
    → take w after ≡ digits_of n
digits_put w n room after p h =
    let e : w ≡ length (digits_of n) = omega (arith, p.next) in
    rw (p.is, sets-eq (digits_of n) room 0 (omega arith), e) (take-append_seam (digits_of n) _)

-- bytes behind those that are written, where the room has place for them
ink_behind : (done room bs : List ℕ) → length bs ≤ length room
    → ink (Some (length done), done ++ room) bs ≡ (Some (length done + length bs), done ++ (bs ++ drop (length bs) room))
unfolding ink ink_one
ink_behind done room [] h = rw add-zero
ink_behind done [] (b ∷ bs) h = absurd (omega arith)
ink_behind done (x ∷ room) (b ∷ bs) h =
    let fits : length done < length (done ++ (x ∷ room)) = rw length-append (omega arith) in
    let more : length (done ++ (b ∷ [])) ≡ length done + 1 = length-append done (b ∷ []) in
    let as_long : (n : ℕ) → length done + 1 + n ≡ length done + suc n = λ n. omega arith in
    simp (lt-ltb (length done) (length (done ++ (x ∷ room))) fits, set-append_seam)
    (simp (append_assoc, more, as_long) at (ink_behind (done ++ (b ∷ [])) room bs (omega arith)))

-- a room that is not below the bytes' number has them at its start, and what it had past them
pub ink_all : (room bs : List ℕ) → length bs ≤ length room
    → ink (Some 0, room) bs ≡ (Some (length bs), bs ++ drop (length bs) room)
ink_all room bs h = ink_behind [] room bs h ∙ rw zero-add
