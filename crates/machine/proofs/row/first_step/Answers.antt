use Rattle.std.proofs.Common.{rules}
use Rattle.machine.proofs.Fetching.{by_kind, two_begins, two_made}
use Rattle.machine.proofs.row.first_step.Goals as goal

pub two-x-requires : goal.two-x-requires
two-x-requires c = two_begins c.args.row.now c.requires.0 c.requires.1 _ (by_kind c.args.row.now c.requires.0 c.requires.1 1 c.requires.2 (search rules))

pub returns-in-1 : goal.returns-in-1
returns-in-1 c i rest h = two_made c.args.row.now i rest _ c.two-x.result (by_kind c.args.row.now i rest 1 h (search rules)) c.two-x.ensures

pub two-x-requires-in-2 : goal.two-x-requires-in-2
two-x-requires-in-2 c = two_begins c.args.row.now c.requires.0 c.requires.1 _ (by_kind c.args.row.now c.requires.0 c.requires.1 2 c.requires.2 (search rules))

pub returns-in-2 : goal.returns-in-2
returns-in-2 c i rest h = two_made c.args.row.now i rest _ c.two-x-in-2.result (by_kind c.args.row.now i rest 2 h (search rules)) c.two-x-in-2.ensures

pub index-requires-in-4-2 : goal.index-requires-in-4-2
index-requires-in-4-2 c = by_kind c.args.row.now c.requires.0 c.requires.1 4 c.requires.2 (search rules)

pub two-a-requires : goal.two-a-requires
two-a-requires c = two_begins c.args.row.now c.requires.0 c.requires.1 _ (by_kind c.args.row.now c.requires.0 c.requires.1 5 c.requires.2 (search rules))

pub returns-in-5 : goal.returns-in-5
returns-in-5 c i rest h = two_made c.args.row.now i rest _ c.two-a.result (by_kind c.args.row.now i rest 5 h (search rules)) c.two-a.ensures

pub two-t-requires : goal.two-t-requires
two-t-requires c = two_begins c.args.row.now c.requires.0 c.requires.1 _ (by_kind c.args.row.now c.requires.0 c.requires.1 9 c.requires.2 (search rules))

pub returns-in-9 : goal.returns-in-9
returns-in-9 c i rest h = two_made c.args.row.now i rest _ c.two-t.result (by_kind c.args.row.now i rest 9 h (search rules)) c.two-t.ensures
