-- `sock_keeper_words` of `cabinet::keeper_bytes` meets its contract: what is held is read as the configuration is.
use native.Mathlib.Omega.{arith}
use mathlib.Core.Path.{sym, ◌∙◌}
use lib.ListN.{length}
use Rattle.sock.specs.Configuration.{standard}
use Rattle.bytewise.proofs.Holding.{read_as}
use Rattle.keeper.specs.Bytes.{config_in}
use Rattle.keeper.proofs.Packing.{showing_narrow, read_alike, byte_answer}
use Rattle.cabinet.proofs.keeper_bytes.sock_keeper_words.Goals as goal

pub pack-requires : goal.pack-requires
pack-requires c = showing_narrow c.held-ws.result.now c.args.engines c.args.serial c.args.k (length c.args.scratch.now) _ _ c.keeper.ensures.decided c.keeper.ensures.shown

pub returns-clause-answered : goal.returns-clause-answered
returns-clause-answered c =
    byte_answer c.args.config.now c.held-ws.result.now c.args.engines c.args.serial c.args.k (length c.args.scratch.now) _ _ _ _
    (read_as standard 8192 (omega arith) c.args.config.now _ c.held-ws.ensures) c.keeper.ensures.numbered c.keeper.ensures.decided c.keeper.ensures.shown c.pack.ensures

pub returns-clause-kept : goal.returns-clause-kept
returns-clause-kept c z =
    c.keeper.ensures.kept λ y.
    z
    (sym
    (read_alike c.held-ws.result.now (config_in c.args.config.now) c.args.engines c.args.serial c.args.k (length c.args.scratch.now) _ _ _
    (read_as standard 8192 (omega arith) c.args.config.now _ c.held-ws.ensures)
    (record { number = c.keeper.ensures.numbered; outcome = c.keeper.ensures.decided; showing = c.keeper.ensures.shown })).number
    ∙ y)
