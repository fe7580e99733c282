-- `profiles_state::state::close_row` meets its contract: the row is refused, or its entry stands and the next row opens. Assumes nothing.
use Prim.Native.Nat.{◌+◌, ◌≤◌, ◌<◌}
use Rattle.rules.specs.Limits.{most_profiles, most_samples}
use Rattle.profiles_state.proofs.Rows.{rows, profiles_fit, samples_fit}
use borrow.Author.Rules.{rules}
use Rattle.profiles_state.proofs.state.close_row.Goals as goal

pub climb-rise-requires : goal.climb-rise-requires
climb-rise-requires c = search (rows, rules)

pub enter_made-requires : goal.enter_made-requires
enter_made-requires c = search (rows, rules)

pub overflow_add-next-then-fault-eq0 : goal.overflow_add-next-then-fault-eq0
overflow_add-next-then-fault-eq0 c = let few : c.args.past.profiles < most_profiles = search (profiles_fit, rules) in search rules

pub overflow_add-next-then-fault-eq0-2 : goal.overflow_add-next-then-fault-eq0-2
overflow_add-next-then-fault-eq0-2 c =
    let start = c in
    let few : start.args.past.samples + start.args.l.count ≤ most_samples = search (samples_fit, rules) in search rules

pub returns-then-fault-eq0 : goal.returns-then-fault-eq0
returns-then-fault-eq0 c = search (rows, rules)

pub returns : goal.returns
returns c = search (rows, rules)
