-- `replace` of `window::entries` meets its contract.
use native.Mathlib.Omega.{arith}
use Rattle.window.proofs.Changing.{oldest_small, oldest_counted, replace_ready, is_replaced}
use Rattle.window.proofs.entries.replace.Goals as goal

pub invariant_of-oldest-clause-most : goal.invariant_of-oldest-clause-most
invariant_of-oldest-clause-most c = oldest_small c.args.words.now c.requires.formed c.from-end.result c.from-end.ensures c.requires.some

pub lower-requires : goal.lower-requires
lower-requires c = record { counted = oldest_counted c.args.words.now c.requires.formed c.from-end.result c.from-end.ensures c.requires.some }

pub raise-requires : goal.raise-requires
raise-requires c = record { fits = replace_ready c.args.words.now c.requires.formed c.from-end.result c.from-end.ensures c.requires.some _ c.lower.ensures c.args.entry.number c.args.entry.most _ c.copy_within.ensures.after }

pub returns : goal.returns
returns c = is_replaced c.args.words.now c.requires.formed c.from-end.result c.from-end.ensures c.requires.some _ c.lower.ensures c.args.entry.number c.args.entry.most _ c.copy_within.ensures.after (omega arith) _ c.raise.ensures
