-- What our own functions hand each other while a frame is held beside the table: a row's access, what follows it, and the
-- table afterwards.
use Rattle.std.specs.Prelude.{ℕ, ◌≡◌, refl, List, Bool, true, false, cond, Option, Some, None}
use Rattle.std.specs.Option.{option_map}
use Rattle.std.proofs.Common.{sym, ap}
use Rattle.words.specs.declared.Sizes.{Sizes}
use Rattle.words.specs.declared.Word.{Word}
use Rattle.words.specs.declared.Word.TheVariants as word
use Rattle.words.specs.declared.Node.{Node}
use Rattle.words.specs.Layout.{has, rd, wr}
use Rattle.table.specs.Table.{Row, loads, stores, frees, nothing}
use Rattle.table.specs.declared.After.{After}

-- what an access loaded, where its word is one of the table's
unfoldable pub loaded : Sizes → List ℕ → Word → Option ℕ
loaded s t w = cond (has s w) (Some (rd s t w)) None

-- whether a store's word is one of the table's, and the table afterwards
unfoldable pub stored : Sizes → List ℕ → Word → ℕ → Option Unit × List ℕ
stored s t w v = cond (has s w) (Some tt, wr s t w v) (None, t)

-- what follows an access, or none where its word is not one of the table's
unfoldable pub turned : Sizes → List ℕ → Row → Option After × List ℕ
turned s t (loads w after) = cond (has s w) (Some (after (rd s t w)), t) (None, t)
turned s t (stores w v after) = cond (has s w) (Some after, wr s t w v) (None, t)
turned s t (frees n after) = cond (has s (word.Next n)) (Some after, wr s (wr s t (word.Next n) 0) (word.Use n) 0) (None, t)
turned s t nothing = (None, t)

-- a row, by what its access gave
pub by_load : (s : Sizes) (t : List ℕ) (w : Word) (x : Option ℕ) → x ≡ loaded s t w → (after : ℕ → After)
    → turned s t (loads w after) ≡ (option_map after x, t)
unfolding loaded turned
by_load s t w x e after = rw e (by (has s w))
  where
    by : (b : Bool)
        → ◌≡◌ {A = Option After × List ℕ} (cond b (Some (after (rd s t w)), t) (None, t))
        (option_map after (cond b (Some (rd s t w)) None), t)
    by true = refl
    by false = refl

pub by_store : (s : Sizes) (t u : List ℕ) (w : Word) (v : ℕ) (x : Option Unit) → stored s t w v ≡ (x, u) → (next : After)
    → turned s t (stores w v next) ≡ (option_map (λ _. next) x, u)
unfolding stored turned
by_store s t u w v x e next = rw (sym (ap (λ p. p.0) e)) (rw (sym (ap (λ p. p.1) e)) (by (has s w)))
  where
    put : Bool → Option Unit × List ℕ
    put b = cond b (Some tt, wr s t w v) (None, t)

    by : (b : Bool) → cond {A = Option After × List ℕ} b (Some next, wr s t w v) (None, t) ≡ (option_map (λ _. next) (put b).0, (put b).1)
    by true = refl
    by false = refl

-- a row that frees, whose first word is not there
pub by_no_free : (s : Sizes) (t u : List ℕ) (n : Node) → stored s t (word.Next n) 0 ≡ (None, u) → (next : After)
    → turned s t (frees n next) ≡ (None, u)
unfolding stored turned
by_no_free s t u n e next = by (has s (word.Next n)) e
  where
    put : List ℕ
    put = wr s t (word.Next n) 0

    by : (b : Bool) → cond {A = Option Unit × List ℕ} b (Some tt, put) (None, t) ≡ (None, u)
        → cond {A = Option After × List ℕ} b (Some next, wr s put (word.Use n) 0) (None, t) ≡ (None, u)
    by true h = let z : Some tt ≡ None = ap (λ p. p.0) h in cc
    by false h = let z : t ≡ u = ap (λ p. p.1) h in cc

-- and one whose first word is there: then its second is too
pub by_free_on : (s : Sizes) (t u v : List ℕ) (n : Node) (x : Unit {0}) (y : Option Unit) → stored s t (word.Next n) 0 ≡ (Some x, u)
    → stored s u (word.Use n) 0 ≡ (y, v) → (next : After) → turned s t (frees n next) ≡ (option_map (λ _. next) y, v)
unfolding stored turned has
by_free_on s t u v n x y e g next =
    rw (sym (ap (λ p. p.0) g)) (rw (sym (ap (λ p. p.1) g)) (by (has s (word.Next n)) e))
  where
    put : List ℕ
    put = wr s t (word.Next n) 0

    after : Bool → Option Unit × List ℕ
    after b = cond b (Some tt, wr s u (word.Use n) 0) (None, u)

    by : (b : Bool) → cond {A = Option Unit × List ℕ} b (Some tt, put) (None, t) ≡ (Some x, u)
        → cond {A = Option After × List ℕ} b (Some next, wr s put (word.Use n) 0) (None, t) ≡ (option_map (λ _. next) (after b).0, (after b).1)
    by true h = let z : put ≡ u = ap (λ p. p.1) h in rw z refl
    by false h = let z : None ≡ Some x = ap (λ p. p.0) h in cc

-- a row that frees, whether its words are there or not: its second is where its first is
pub by_free : (s : Sizes) (t u v : List ℕ) (n : Node) (x y : Option Unit) → stored s t (word.Next n) 0 ≡ (x, u)
    → stored s u (word.Use n) 0 ≡ (y, v) → (next : After) → turned s t (frees n next) ≡ (option_map (λ _. next) x, v)
unfolding stored turned has
by_free s t u v n x y e g next =
    rw (sym (ap (λ p. p.0) e)) (rw (sym (ap (λ p. p.1) g)) (rw (sym (ap (λ p. p.1) e)) (by (has s (word.Next n)))))
  where
    put : List ℕ
    put = wr s t (word.Next n) 0

    first : Bool → Option Unit × List ℕ
    first b = cond b (Some tt, put) (None, t)

    second : Bool → List ℕ → Option Unit × List ℕ
    second b w = cond b (Some tt, wr s w (word.Use n) 0) (None, w)

    by : (b : Bool) → cond {A = Option After × List ℕ} b (Some next, wr s put (word.Use n) 0) (None, t)
        ≡ (option_map (λ _. next) (first b).0, (second b (first b).1).1)
    by true = refl
    by false = refl

pub by_nothing : (s : Sizes) (t : List ℕ) → turned s t nothing ≡ (None, t)
unfolding turned
by_nothing s t = refl
