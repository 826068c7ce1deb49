use Rattle.std.proofs.Common.{◌≡◌, length}
use Rattle.std.specs.Iterator.Adapters.{zip_first, zip_second}
use Rattle.interval.specs.Boxes.{box_of}
use Rattle.table.specs.Looking.{outside}
use Rattle.table.proofs.place.covered_box.Given as goal

-- what is left to be compared gives the answer
abbrev pub invariant-loop-k : goal.invariant-loop-k
invariant-loop-k l =
    let a = zip_first l.k-iterator.iter in
    let b = zip_second l.k-iterator.iter in
    record {
      can : (goal.iterator-loop-k).can_next l.k-iterator;
      ends : (goal.iterator-loop-k).is_finite l.k-iterator;
      long : length b ≡ length a;
      outside : outside l.k-iterator.count a b ≡ outside 0 (box_of l.a) (box_of l.b);
    }
