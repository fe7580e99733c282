-- `files::parts::read_draft` meets its contract: each way out by its law. Assumes nothing.
use borrow.Author.Rules.{rules}
use Rattle.files.proofs.DraftWays.{draft-unknown, draft_fault, draft_right}
use Rattle.files.proofs.parts.read_draft.Goals as goal

pub returns-in-Err : goal.returns-in-Err
returns-in-Err c = search (draft-unknown, rules)

pub returns-in-Err-read_timetable : goal.returns-in-Err-read_timetable
returns-in-Err-read_timetable c = search (draft_fault, rules)

pub returns-in-Ok-read_timetable : goal.returns-in-Ok-read_timetable
returns-in-Ok-read_timetable c = search (draft_right, rules)
