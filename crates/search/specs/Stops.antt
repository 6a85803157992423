-- A listing stops for a reason of its caller's own only where it had before, and for the same one: any other goes on, is cut or is full.
use Rattle.std.specs.Prelude.{ℕ, ◌≡◌, Bool, true, false, cond, List, [], ◌∷◌, ◌++◌, leb, length, Option, Some, None}
use Rattle.ways.specs.Schedules.{Move}
use Rattle.entries.specs.Texts.{counts}
use Rattle.search.specs.declared.Asked.{Asked}
use Rattle.search.specs.declared.Listed.{Listed}
use Rattle.search.specs.declared.Stop.TheVariants.{Cut, Full, Other}
use Rattle.search.specs.declared.What.{What}
use Rattle.search.specs.declared.What.TheVariants.{Count, Tally, Measure, Write}
use Rattle.search.specs.Walk.{State, entry_text, more, shut, fits, is_going, noted, entered, emitted, tailed, listing}

module _ (k : ℕ) where
  -- the listing has stopped for its caller's reason k
  abbrev pub Own : State → Type 0
  Own st = st.0.stop ≡ Other k

  noted_own : (text : List ℕ) (l : Listed) (room : List ℕ) → (noted text l room).stop ≡ Other k → l.stop ≡ Other k
  unfolding noted
  noted_own text l room h = by (fits text l room) h
    where
      by : (b : Bool) → (cond b (more (length text) l) (shut Full l)).stop ≡ Other k → l.stop ≡ Other k
      by true e = e
      by false e = cc

  module _ (a : Asked) (ws : List ℕ) where
    entered_own : (cs : List ℕ) (w : What) (st : State) → Own (entered a ws cs w st) → Own st
    unfolding entered
    entered_own cs Count (l, (room, ts)) h = h
    entered_own cs Tally (l, (room, ts)) h = h
    entered_own cs Measure (l, (room, ts)) h = noted_own (entry_text a ws cs) l room h
    entered_own cs Write (l, (room, ts)) h = noted_own (entry_text a ws cs) l room h

    emitted_own : (cs : List ℕ) (st : State) → Own (emitted a ws cs st) → Own st
    unfolding emitted
    emitted_own cs st h = by (is_going st.0.stop) (leb a.bound st.0.count) h
      where
        by : (b c : Bool) → Own (cond b (cond c (shut Cut st.0, st.1) (entered a ws cs a.what st)) st) → Own st
        by true true e = cc
        by true false e = entered_own cs a.what st e
        by false c e = e

    -- after what the search's calls promise

    pub tailed_own : (pre : List ℕ) (tail : Option ℕ) (st : State) → Own (tailed a ws pre tail st) → Own st
    unfolding tailed
    tailed_own pre (Some m) st h = emitted_own (pre ++ (m ∷ [])) st h
    tailed_own pre None st h = h

    pub listing_own : (pre : List ℕ) (n : ℕ) (mss : List (List Move)) (st : State) → Own (listing a ws pre n mss st) → Own st
    unfolding listing
    listing_own pre n [] st h = h
    listing_own pre n (ms ∷ mss) st h =
        emitted_own (pre ++ counts n ms) st (listing_own pre n mss (emitted a ws (pre ++ counts n ms) st) h)
