-- These definitions say what each public entry answers, and what it leaves in every lent table and text, for every input.
use Rattle.std.specs.Prelude.{ℕ, ◌*◌, ◌/◌, Bool, true, false, ◌&&◌, List, leb, length, replicate, ℤ, pos, Option, Some, None}
use Rattle.rules.specs.Limits.{most_text, configuration_width, unsigned_fill, signed_fill, byte_fill}
use Rattle.rules.specs.Lists.{flat, over}
use Rattle.rules.specs.Answers.{refusal, unequal_travel, no_solution, no_room, no_file, solution_file, second_file, Reading, refused, good, ◌>>=◌}
use Rattle.rules.specs.Rows.{place_of_row}
use Rattle.rules.specs.Timetable.{legs_of, configurations_of, leg_numbers, configuration_numbers}
use Rattle.rules.specs.Profiles.{profiles_from, sample_table, profile_numbers}
use Rattle.rules.specs.Constraints.{ordered, constraint_numbers, track_numbers}
use Rattle.rules.specs.Reading.{Rooms, Texts, Files, files_of, choices_read}
use Rattle.rules.specs.Tally.{no_tests}
use Rattle.rules.specs.Verdict.{offered, Finding, accepted, violated, Verdict, verdict, answer_of}
use Rattle.rules.specs.Energy.{figures_of, curves_of, desk_of}
use Rattle.rules.specs.Merge.{unequal_from, chosen, text_of}
use Rattle.rules.specs.Earliest.{earliest}
use Rattle.rules.specs.declared.stated.Stated.{Stated}
use Rattle.rules.specs.declared.sizes.Configuration.{Configuration}
use Rattle.rules.specs.declared.answers.Refusal.{Refusal}
use Rattle.rules.specs.declared.answers.Tally.{Tally}
use Rattle.rules.specs.declared.answers.Answer.{Answer}
use Rattle.rules.specs.declared.answers.Answer.TheVariants.{Accepted, Refused}
use Rattle.rules.specs.declared.figures.Peaks.{Peaks}
use Rattle.rules.specs.declared.figures.Figures.{Figures}
use Rattle.rules.specs.declared.figures.Desk.{Desk}

-- ---- the lent tables

pub record Tables : Type 0 where
  pub legs : List ℕ
  pub configurations : List ℕ
  pub profiles : List ℕ
  pub samples : List ℤ
  pub constraints : List ℕ
  pub tracks : List ℕ

abbrev pub tables : (legs configurations profiles : List ℕ) (samples : List ℤ) (constraints tracks : List ℕ) → Tables
tables legs configurations profiles samples constraints tracks =
    record { legs = legs; configurations = configurations; profiles = profiles; samples = samples; constraints = constraints; tracks = tracks }

abbrev pub rooms_of : Tables → Rooms
rooms_of t =
    record {
      legs = length t.legs;
      configurations = length t.configurations;
      profiles = length t.profiles;
      samples = length t.samples;
      constraints = length t.constraints;
      tracks = length t.tracks;
    }

-- after a refusal a table holds only a number that no field can have
abbrev pub filled : {A : Type 0} → A → List A → List A
filled fill t = replicate (length t) fill

abbrev pub filled_tables : Tables → Tables
filled_tables t =
    record {
      legs = filled unsigned_fill t.legs;
      configurations = filled unsigned_fill t.configurations;
      profiles = filled unsigned_fill t.profiles;
      samples = filled signed_fill t.samples;
      constraints = filled unsigned_fill t.constraints;
      tracks = filled unsigned_fill t.tracks;
    }

-- what was read stands at the front of each table
abbrev pub written_tables : Files → Tables → Tables
written_tables f t =
    record {
      legs = over (flat leg_numbers (legs_of f.rows)) t.legs;
      configurations = over (flat configuration_numbers (configurations_of f.rows)) t.configurations;
      profiles = over (flat profile_numbers (profiles_from 0 f.curves)) t.profiles;
      samples = over (sample_table f.curves) t.samples;
      constraints = over (flat constraint_numbers (ordered f.document.constraints)) t.constraints;
      tracks = over (flat track_numbers f.document.tracks) t.tracks;
    }

abbrev pub written_choices : List Configuration → List ℕ → List ℕ
written_choices cs t = over (flat configuration_numbers cs) t

-- the verdict over the files
abbrev pub verdict_of : Files → List Configuration → Verdict
verdict_of f cs = verdict (offered f.rows) (ordered f.document.constraints) cs

-- ---- check

-- all four files, read whole
pub record Whole : Type 0 where
  pub files : Files
  pub choices : List Configuration

unfoldable pub all_read : Stated → Texts → (solution : List ℕ) → Rooms → (choices : ℕ) → Reading Whole
all_read S x solution room choices = do
  files ← files_of S x room
  cs ← choices_read S.horizon files solution_file choices solution
  good (record { files = files; choices = cs })

-- on a refusal nothing is counted
pub record Checked : Type 0 where
  pub answer : Answer
  pub tally : Tally
  pub tables : Tables
  pub choices : List ℕ

abbrev pub checked_from : Reading Whole → Tables → List ℕ → Checked
checked_from (refused r) t c = record { answer = Refused r; tally = no_tests; tables = filled_tables t; choices = filled unsigned_fill c }
checked_from (good w) t c =
    record {
      answer = answer_of solution_file (verdict_of w.files w.choices).finding;
      tally = (verdict_of w.files w.choices).tally;
      tables = written_tables w.files t;
      choices = written_choices w.choices c;
    }

unfoldable pub checked : Stated → Texts → (solution : List ℕ) → Tables → (choices : List ℕ) → Checked
checked S x solution t c = checked_from (all_read S x solution (rooms_of t) (length c)) t c

-- ---- energy: figures for accepted solutions only

abbrev pub no_peaks : Peaks
no_peaks = record { before = record { kj = 0; quarter = 0 }; drawn = record { kj = 0; quarter = 0 } }

abbrev pub no_figures : Figures
no_figures = record { before = 0; drawn = 0; lost = 0; fluctuation = pos 0; peaks = no_peaks }

pub record Reported : Type 0 where
  pub answer : Answer
  pub tally : Tally
  pub figures : Figures
  pub desk : Desk
  pub tables : Tables
  pub choices : List ℕ
  pub curves : List ℤ

abbrev pub report_refused : Refusal → Tables → List ℕ → List ℤ → Reported
report_refused r t c p =
    record {
      answer = Refused r;
      tally = no_tests;
      figures = no_figures;
      desk = desk_of no_figures;
      tables = filled_tables t;
      choices = filled unsigned_fill c;
      curves = filled signed_fill p;
    }

-- the curves need a place for each second of each subnet; that is tested after acceptance
abbrev pub report_accepted : (fits : Bool) → (H : ℕ) → Tally → Whole → Tables → List ℕ → List ℤ → Reported
report_accepted false H tally w t c p = report_refused (refusal no_room no_file 0) t c p
report_accepted true H tally w t c p =
    record {
      answer = Accepted;
      tally = tally;
      figures = figures_of H w.files w.choices;
      desk = desk_of (figures_of H w.files w.choices);
      tables = written_tables w.files t;
      choices = written_choices w.choices c;
      curves = over (curves_of H w.files w.choices) p;
    }

abbrev pub report_judged : Finding → (H : ℕ) → Tally → Whole → Tables → List ℕ → List ℤ → Reported
report_judged accepted H tally w t c p = report_accepted (leb (w.files.document.opened * H) (length p)) H tally w t c p
report_judged (violated v) H tally w t c p =
    record {
      answer = answer_of solution_file (violated v);
      tally = tally;
      figures = no_figures;
      desk = desk_of no_figures;
      tables = written_tables w.files t;
      choices = written_choices w.choices c;
      curves = filled signed_fill p;
    }

abbrev pub report_from : Reading Whole → (H : ℕ) → Tables → List ℕ → List ℤ → Reported
report_from (refused r) H t c p = report_refused r t c p
report_from (good w) H t c p = report_judged (verdict_of w.files w.choices).finding H (verdict_of w.files w.choices).tally w t c p

unfoldable pub reported : Stated → Texts → (solution : List ℕ) → Tables → (choices : List ℕ) → (curves : List ℤ) → Reported
reported S x solution t c p = report_from (all_read S x solution (rooms_of t) (length c)) S.horizon t c p

-- ---- merge: the rule of choosing is `earlier` or `later`, by the direction

pub record Both : Type 0 where
  pub files : Files
  pub first : List Configuration
  pub second : List Configuration

unfoldable pub both_read : Stated → Texts → (first second : List ℕ) → Rooms → (choices second_choices : ℕ) → Reading Both
both_read S x first second room choices second_choices = do
  files ← files_of S x room
  a ← choices_read S.horizon files solution_file choices first
  b ← choices_read S.horizon files second_file second_choices second
  good (record { files = files; first = a; second = b })

-- a merge that writes is a text and no verdict: it counts nothing
pub record Merged : Type 0 where
  pub answer : Answer
  pub tally : Tally
  pub length : ℕ
  pub tables : Tables
  pub choices : List ℕ
  pub second : List ℕ
  pub text : List ℕ

module _ (t : Tables) (c d text : List ℕ) where
  abbrev pub merge_refused : Refusal → Merged
  merge_refused r =
      record {
        answer = Refused r;
        tally = no_tests;
        length = 0;
        tables = filled_tables t;
        choices = filled unsigned_fill c;
        second = filled unsigned_fill d;
        text = filled byte_fill text;
      }

  -- a violation leaves the tables as read, and zeroes the text
  abbrev pub merge_violated : Answer → Tally → Both → Merged
  merge_violated a tally b =
      record {
        answer = a;
        tally = tally;
        length = 0;
        tables = written_tables b.files t;
        choices = written_choices b.first c;
        second = written_choices b.second d;
        text = filled byte_fill text;
      }

  abbrev pub merge_fitted : (fits : Bool) → (written : List ℕ) → Both → Merged
  merge_fitted false written b = merge_refused (refusal no_room no_file 0)
  merge_fitted true written b =
      record {
        answer = Accepted;
        tally = no_tests;
        length = length written;
        tables = written_tables b.files t;
        choices = written_choices b.first c;
        second = written_choices b.second d;
        text = over written text;
      }

  abbrev pub merge_written : (written : List ℕ) → Both → Merged
  merge_written written b = merge_fitted (leb (length written) (length text) && leb (length written) most_text) written b

  -- 17 lies in the second solution, at the row
  abbrev pub merge_travel : (second_text : List ℕ) → (merge : List Configuration → List Configuration → List Configuration) → Option ℕ → Both → Merged
  merge_travel second_text merge (Some row) b = merge_refused (refusal unequal_travel second_file (place_of_row second_text row))
  merge_travel second_text merge None b = merge_written (text_of (chosen b.files.rows (merge b.first b.second))) b

  -- the verdict of the first, of the second, 17, 16; a violation has its own verdict's tally
  abbrev pub merge_second : (second_text : List ℕ) → (merge : List Configuration → List Configuration → List Configuration) → Finding → Tally → Both → Merged
  merge_second second_text merge accepted tally b = merge_travel second_text merge (unequal_from 0 b.first b.second) b
  merge_second second_text merge (violated v) tally b = merge_violated (answer_of second_file (violated v)) tally b

  abbrev pub merge_first : (second_text : List ℕ) → (merge : List Configuration → List Configuration → List Configuration) → Finding → Tally → Both → Merged
  merge_first second_text merge accepted tally b = merge_second second_text merge (verdict_of b.files b.second).finding (verdict_of b.files b.second).tally b
  merge_first second_text merge (violated v) tally b = merge_violated (answer_of solution_file (violated v)) tally b

  abbrev pub merge_from : (second_text : List ℕ) → (merge : List Configuration → List Configuration → List Configuration) → Reading Both → Merged
  merge_from second_text merge (refused r) = merge_refused r
  merge_from second_text merge (good b) = merge_first second_text merge (verdict_of b.files b.first).finding (verdict_of b.files b.first).tally b

unfoldable pub merged :
    (merge : List Configuration → List Configuration → List Configuration) → Stated → Texts → (first second : List ℕ) → Tables → (choices second_choices text : List ℕ) → Merged
merged merge S x first second t c d text = merge_from t c d text second merge (both_read S x first second (rooms_of t) (length c) (length d))

-- ---- earliest: the proposal, and then the ordinary verdict

pub record Proposed : Type 0 where
  pub answer : Answer
  pub tally : Tally
  pub length : ℕ
  pub tables : Tables
  pub choices : List ℕ
  pub text : List ℕ

module _ (t : Tables) (c text : List ℕ) where
  abbrev pub propose_refused : Refusal → Proposed
  propose_refused r =
      record {
        answer = Refused r;
        tally = no_tests;
        length = 0;
        tables = filled_tables t;
        choices = filled unsigned_fill c;
        text = filled byte_fill text;
      }

  abbrev pub propose_fitted : (fits : Bool) → (written : List ℕ) → Tally → Files → List Configuration → Proposed
  propose_fitted false written tally f x = propose_refused (refusal no_room no_file 0)
  propose_fitted true written tally f x =
      record {
        answer = Accepted;
        tally = tally;
        length = length written;
        tables = written_tables f t;
        choices = written_choices x c;
        text = over written text;
      }

  -- 16: room for the choices, and for the text as for merges
  abbrev pub propose_written : (written : List ℕ) → Tally → Files → List Configuration → Proposed
  propose_written written tally f x =
      propose_fitted (leb (length x) (length c / configuration_width) && (leb (length written) (length text) && leb (length written) most_text)) written tally f x

  -- what is not accepted is no solution; that every proposal is accepted is a theorem (`earliest_theorems`)
  abbrev pub propose_judged : Finding → Tally → Files → List Configuration → Proposed
  propose_judged accepted tally f x = propose_written (text_of (chosen f.rows x)) tally f x
  propose_judged (violated v) tally f x = propose_refused (refusal no_solution no_file 0)

  -- 19
  abbrev pub propose_found : Option (List Configuration) → Files → Proposed
  propose_found None f = propose_refused (refusal no_solution no_file 0)
  propose_found (Some x) f = propose_judged (verdict_of f x).finding (verdict_of f x).tally f x

  abbrev pub propose_from : Reading Files → Proposed
  propose_from (refused r) = propose_refused r
  propose_from (good f) = propose_found (earliest f.rows (ordered f.document.constraints)) f

unfoldable pub proposed : Stated → Texts → Tables → (choices text : List ℕ) → Proposed
proposed S x t c text = propose_from t c text (files_of S x (rooms_of t))
