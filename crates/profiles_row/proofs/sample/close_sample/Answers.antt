-- `profiles_row::sample::close_sample` meets its contract: the sample stands behind those before it, or the row is out of range. Assumes nothing.
use Rattle.profiles_row.proofs.Closing.{closing, sample_in}
use borrow.Author.Rules.{rules}
use Rattle.profiles_row.proofs.sample.close_sample.Goals as goal

pub returns-in-Some : goal.returns-in-Some
returns-in-Some c = sample_in _ _ _ _ _ _ c.kw_of-kw.ensures c.new.ensures _ _ c.in-Some.is c.put.ensures

pub returns-in-None : goal.returns-in-None
returns-in-None c = search (closing, rules)
