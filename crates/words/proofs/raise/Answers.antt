use Rattle.words.specs.Laws.{measured_fits, measured_limits, counts_length, put_length}
use Rattle.words.specs.Copies.{parts_long, parts_spread}
use Rattle.words.specs.Copy.{taller, raised}
use Rattle.words.specs.Layout.{put_counts}
use lib.ListN.{length-set}
use mathlib.Core.Path.{ap}
use native.Mathlib.Omega.{arith}
use Rattle.words.proofs.raise.Goals as goal

pub copy_part-requires : goal.copy_part-requires
copy_part-requires c = let pre_0 = c.requires.t_value in
    let pre_1 = c.requires.copy_len in
    let fits = measured_fits _ _ pre_0 in (omega (arith, fits.room), omega (arith, pre_1))

pub words_of-requires : goal.words_of-requires
words_of-requires c = let pre_0 = c.requires.t_value in
    let lim = measured_limits _ _ pre_0 in
    record { levels = omega (arith, lim.levels); queues = omega (arith, lim.queues); nodes = omega (arith, lim.nodes) }

pub copy_part-requires-2 : goal.copy_part-requires-2
copy_part-requires-2 c = let pre_0 = c.requires.t_value in
    let words_of_says = c.words_of.ensures in
    let pre_1 = c.requires.copy_len in
    let fits = measured_fits _ _ pre_0 in (omega (arith, fits.room, words_of_says), simp length-set (omega (arith, pre_1, words_of_says)))

pub add_level-tall-requires : goal.add_level-tall-requires
add_level-tall-requires c = let pre_0 = c.requires.t_value in
    let lim = measured_limits _ _ pre_0 in
    record { levels = omega (arith, lim.levels); queues = omega (arith, lim.queues); nodes = omega (arith, lim.nodes) }

pub narrow-requires : goal.narrow-requires
narrow-requires c = let pre_0 = c.requires.t_value in
    let lim = measured_limits _ _ pre_0 in omega (arith, lim.levels)

pub write_frame-requires : goal.write_frame-requires
write_frame-requires c = let pre_0 = c.requires.t_value in
    let args_s = c.args.s in
    let args_t_now = c.args.t.now in
    let args_copy_now = c.args.copy.now in
    let pre_1 = c.requires.copy_len in
    let add_level_says = c.add_level-tall.ensures in
    let narrow_says = c.narrow.ensures in
    let copy_part2_says = c.copy_part-2.ensures in
    let words_of_says = c.words_of.ensures in
    let copy_part_says = c.copy_part.ensures in
    let lim = measured_limits _ _ pre_0 in
    let fits = measured_fits _ _ pre_0 in
    let long = parts_long args_s args_t_now args_copy_now fits.room pre_1 in
    rw (add_level_says, narrow_says) (record {
      fits = record {
        room = rw (copy_part2_says, words_of_says, copy_part_says) (omega (arith, long, pre_1));
        levels = omega (arith, lim.levels);
        queues = omega (arith, lim.queues);
        nodes = omega (arith, lim.nodes);
      };
      l_lt_levels = omega arith;
    })

pub put_counts-requires : goal.put_counts-requires
put_counts-requires c = let pre_0 = c.requires.t_value in
    let args_s = c.args.s in
    let args_t_now = c.args.t.now in
    let args_copy_now = c.args.copy.now in
    let pre_1 = c.requires.copy_len in
    let add_level_says = c.add_level-tall.ensures in
    let write_frame_says = c.write_frame.ensures in
    let copy_part2_says = c.copy_part-2.ensures in
    let words_of_says = c.words_of.ensures in
    let copy_part_says = c.copy_part.ensures in
    let lim = measured_limits _ _ pre_0 in
    let fits = measured_fits _ _ pre_0 in
    let long = parts_long args_s args_t_now args_copy_now fits.room pre_1 in
    rw add_level_says (record {
      room = rw (write_frame_says, put_length, copy_part2_says, words_of_says, copy_part_says) (omega (arith, long, pre_1));
      levels = omega (arith, lim.levels);
      queues = omega (arith, lim.queues);
      nodes = omega (arith, lim.nodes);
    })

pub returns : goal.returns
unfolding raised
returns c = let pre_0 = c.requires.t_value in
    let args_s = c.args.s in
    let args_t_now = c.args.t.now in
    let args_copy_now = c.args.copy.now in
    let pre_1 = c.requires.copy_len in
    let add_level_says = c.add_level-tall.ensures in
    let write_frame_says = c.write_frame.ensures in
    let copy_part2_says = c.copy_part-2.ensures in
    let copy_part_says = c.copy_part.ensures in
    let put_counts_says = c.put_counts.ensures in
    let narrow_says = c.narrow.ensures in
    let no_frame_says = c.no_frame.ensures in
    let words_of_says = c.words_of.ensures in
    let fits = measured_fits _ _ pre_0 in
    let filled = parts_spread args_s args_t_now args_copy_now fits.room pre_1 in
    rw (put_counts_says, write_frame_says, copy_part2_says, copy_part_says, add_level_says, narrow_says, no_frame_says, words_of_says)
    (ap (put_counts (taller args_s)) filled)
