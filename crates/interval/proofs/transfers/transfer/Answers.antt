use Rattle.interval.proofs.transfers.transfer.Goals as goal

pub returns-in-Jump : goal.returns-in-Jump
returns-in-Jump c = rw (c.in-Jump.is, ← c.copy_from_slice.ensures.after) (c.jump.ensures c.args.words)
