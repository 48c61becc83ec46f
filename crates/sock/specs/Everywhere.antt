-- Processes wherever they stand: in every part and in every list of a configuration, enabled or not (document 01, "Calls", on demand 3).
use Rattle.std.specs.Prelude.{ℕ, ◌+◌, Bool, List, [], ◌∷◌}
use Rattle.sock.specs.Words.{bit}
use Rattle.sock.specs.Term.{Node, node, Block, absent, list, Entries, no_entries, entry, Nodes, no_parts, ◌&◌}
use Rattle.sock.specs.Running.{Run, as_node, awake}
use Rattle.sock.specs.Configuration.{Engine, Config}

-- how many processes pass a test: a process itself, its list, its parts
unfoldable mutual
  pub occurs : (Run → Bool) → Node → ℕ
  occurs test (node h f es b ps) = bit (test (awake (node h f es b ps))) + (occurs_in test b + occurs_all test ps)

  pub occurs_in : (Run → Bool) → Block → ℕ
  occurs_in test absent = 0
  occurs_in test (list l) = occurs_each test l

  pub occurs_each : (Run → Bool) → Entries → ℕ
  occurs_each test no_entries = 0
  occurs_each test (entry k p es) = occurs test p + occurs_each test es

  pub occurs_all : (Run → Bool) → Nodes → ℕ
  occurs_all test no_parts = 0
  occurs_all test (p & ps) = occurs test p + occurs_all test ps

unfoldable pub occurs_engines : (Run → Bool) → List Engine → ℕ
occurs_engines test [] = 0
occurs_engines test (e ∷ es) = occurs test (as_node e.process) + occurs_engines test es

unfoldable pub everywhere : (Run → Bool) → Config → ℕ
everywhere test c = occurs_engines test c.engines
