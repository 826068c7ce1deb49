use Rattle.std.proofs.Common.{◌≡◌, ◌+◌, ◌++◌, ◌||◌, not, length, take, drop}
use Rattle.interval.specs.Boxes.{box_of}
use Rattle.fixpoint.specs.Rounds.{join_box, covers_box}
use Rattle.fixpoint.proofs.joining.join_box.Given as goal

-- what is left to be joined gives the answers
abbrev pub invariant-loop-k : goal.invariant-loop-k
invariant-loop-k l =
    let b = box_of l.numbers in
    let k = l.k-iterator.count in
    let left = l.k-iterator.iter in
    record {
      can : (goal.iterator-loop-k).can_next l.k-iterator;
      ends : (goal.iterator-loop-k).is_finite l.k-iterator;
      long : length left + k ≡ length b;
      joined : take k b ++ join_box (drop k b) left ≡ join_box (box_of l.initial.numbers) (box_of l.made);
      changed : (l.changed || not (covers_box left (drop k b))) ≡ not (covers_box (box_of l.made) (box_of l.initial.numbers));
    }
