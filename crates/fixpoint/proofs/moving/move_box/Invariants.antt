use Rattle.std.proofs.Common.{◌≡◌, ◌+◌, ◌++◌, ◌||◌, length, take, drop}
use Rattle.std.specs.Iterator.Adapters.{zip_first, zip_second}
use Rattle.interval.specs.Boxes.{box_of}
use Rattle.fixpoint.specs.Confirming.{moved_box, wider_box}
use Rattle.fixpoint.proofs.moving.move_box.Given as goal

-- what is left to be moved gives the answers
abbrev pub invariant-loop-k : goal.invariant-loop-k
invariant-loop-k l =
    let b = box_of l.numbers in
    let k = l.k-iterator.count in
    let m = zip_first l.k-iterator.iter in
    let mm = zip_first (zip_second l.k-iterator.iter) in
    let ms = zip_second (zip_second l.k-iterator.iter) in
    let all = moved_box (box_of l.guess) (box_of l.made) (box_of l.grown) (box_of l.initial.numbers) in
    record {
      can : (goal.iterator-loop-k).can_next l.k-iterator;
      ends : (goal.iterator-loop-k).is_finite l.k-iterator;
      long : length m + k ≡ length b;
      made : length mm ≡ length m;
      grown : length ms ≡ length m;
      moved : take k b ++ moved_box m mm ms (drop k b) ≡ all;
      wider : (l.moved || wider_box (moved_box m mm ms (drop k b)) (drop k b)) ≡ wider_box all (box_of l.initial.numbers);
    }
