use Rattle.std.proofs.Common.{ℕ, ◌+◌, ◌-◌, ◌≤◌, ◌≡◌, refl, List, length, arith, append_assoc, drop-drop, ◌∙◌}
use Rattle.std.proofs.lemmas.List.Edits.{sets-eq}
use borrow.Rule.Slice.PartMut.{put_mid}
use Rattle.text.specs.declared.Event.{Event}
use Rattle.heads.specs.Put.{Put}
use Rattle.tasks.specs.Tasks.{words_of}
use Rattle.tasks.proofs.put_operation.Goals as goal
use Rattle.tasks.proofs.put_operation.Goals.{in-Enqueue, in-Dequeue}

four : (ops written : List ℕ) (at : ℕ) (e : Event) → written ≡ words_of e → length (words_of e) ≡ 4 → at + 4 ≤ length ops
    → Put (at + 4) (put_mid at (at + 4 - at) ops written) ops at (words_of e)
four ops written at e h n long =
    let s = sets-eq (words_of e) ops at (omega (arith, n)) in
    record { next = omega (arith, n); is = grind (arith, s, h, n, drop-drop, append_assoc) }

pub returns : goal.returns
unfolding words_of
returns c =
    let e = c.copy_from_slice.ensures.after in
    elim c.match-e.branch [
      | in-Enqueue w ↦ four _ _ _ c.args.e (e ∙ w.words-is ∙ rw w.in-Enqueue.is refl) (rw w.in-Enqueue.is refl) (omega arith)
      | in-Dequeue w ↦ four _ _ _ c.args.e (e ∙ w.words-is ∙ rw w.in-Dequeue.is refl) (rw w.in-Dequeue.is refl) (omega arith)
    ]
