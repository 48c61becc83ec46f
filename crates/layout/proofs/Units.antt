-- The bits below the last field of each fixed word are those that the fixed table has as unused.
-- Assumes nothing.
use mathlib.Core.Path.{◌≡◌, refl}
use mathlib.Core.List.{[], ◌∷◌}
use Rattle.sock.specs.Kind
use Rattle.sock.specs.Kind.{word, variables, row_of, rows}
use Rattle.layout.specs.Units

pub request_unused : (row_of Kind.request).fixed ≡ word Units.first_variable ∷ variables ∷ variables ∷ []
unfolding row_of rows
request_unused = refl

pub notify_unused : (row_of Kind.notify).fixed ≡ word Units.first_variable ∷ variables ∷ []
unfolding row_of rows
notify_unused = refl

pub solicit_unused : (row_of Kind.solicit).fixed ≡ word Units.next_variable ∷ variables ∷ variables ∷ []
unfolding row_of rows
solicit_unused = refl

pub scope_unused : (row_of Kind.scope).fixed ≡ word Units.first_name ∷ []
unfolding row_of rows
scope_unused = refl

pub executor_unused : (row_of Kind.executor).fixed ≡ word Units.executors_client ∷ word 1 ∷ variables ∷ []
unfolding row_of rows
executor_unused = refl

pub waiter_unused : (row_of Kind.waiter).fixed ≡ word Units.waiters_server ∷ word 1 ∷ variables ∷ []
unfolding row_of rows
waiter_unused = refl

pub notice_unused : (row_of Kind.notice).fixed ≡ word Units.notices_client ∷ word 1 ∷ []
unfolding row_of rows
notice_unused = refl
