use Rattle.std.proofs.Common.{◌≡◌, length}
use Rattle.std.specs.Iterator.Adapters.{zip_first, zip_second}
use Rattle.interval.specs.Boxes.{box_of}
use Rattle.fixpoint.specs.Confirming.{reached_box}
use Rattle.fixpoint.proofs.reaching.reached_box.Given as goal

-- what is left to be looked at gives the answer
abbrev pub invariant-loop-r : goal.invariant-loop-r
invariant-loop-r l =
    let b = zip_first l.r-iterator in
    let m = zip_first (zip_second l.r-iterator) in
    let s = zip_second (zip_second l.r-iterator) in
    record {
      can : (goal.iterator-loop-r).can_next l.r-iterator;
      ends : (goal.iterator-loop-r).is_finite l.r-iterator;
      guess : length m ≡ length b;
      moved : length s ≡ length b;
      reached : reached_box b m s ≡ reached_box (box_of l.b) (box_of l.guess) (box_of l.moved);
    }
