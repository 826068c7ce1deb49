use Rattle.std.proofs.Common.{sym}
use Rattle.text.proofs.Scans.{skip_comment, skip_separator}
use Rattle.text.proofs.words.next_word.Goals as goal
use Rattle.text.proofs.words.next_word.Goals.{then-comment, else-comment+then-is_separator}

pub loop-at-preserved : goal.loop-at-preserved
loop-at-preserved c =
    let h = c.loop-at-test.true in
    elim c.if-comment.branch [
      | then-comment w ↦ skip_comment _ _ _ _ _ h w.if-comment.true w.comment-is c.loop-at.invariant
      | else-comment+then-is_separator w ↦ skip_separator _ _ _ _ _ h w.if-comment.false (sym w.if-is_separator.ensures) w.comment-is c.loop-at.invariant
    ]
