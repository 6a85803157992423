use Prim.Native.Nat.{ℕ}
use mathlib.Core.Path.{◌∙◌, ap}
use lib.Seq.{sets}
use Rattle.words.specs.Laws.{frame_laid}
use lib.ListN.{length-set}
use Rattle.words.specs.Layout.{put_frame, frame_words}
use Rattle.words.proofs.write_frame.Goals as goal

pub returns : goal.returns
unfolding put_frame
returns c = frame_laid c.args.t.now c.frame_place-b.result c.args.f ∙ ap (λ (b : ℕ). sets c.args.t.now b (frame_words c.args.f)) c.frame_place-b.ensures.is
