-- `append` of `window::entries` meets its contract.
use native.Mathlib.Omega.{arith}
use Rattle.window.proofs.Changing.{append_ready, is_appended}
use Rattle.window.proofs.entries.append.Goals as goal

pub raise-requires : goal.raise-requires
raise-requires c = record { fits = append_ready c.args.words.now c.requires.formed c.from.result c.args.entry.number c.from.ensures c.requires.room c.args.entry.most }

pub returns : goal.returns
returns c = is_appended c.args.words.now c.requires.formed c.from.result c.args.entry.number c.from.ensures c.requires.room c.args.entry.most (omega arith) _ c.raise.ensures
