-- The command line of polcert: its grammar as clap sees it, and the choice of a subcommand and its values. Our own.
--
--     polcert                        as `model`, on standard input
--     polcert model FILE
--     polcert print FILE
--     polcert check FILE PG ALPHA
--     polcert check --at-most FILE PG ALPHA        from above
--     polcert lower FILE PG ALPHA
--     polcert raise FILE PG ALPHA                  the same from above
use Rattle.std.specs.Prelude.{List, Option, Some, None, option_map, codes, if◌then◌else◌}
use Rattle.std.specs.Str.{bytes_eq}
use Rattle.clap.specs.Words.{App, Row, Text, with_rule, with_subcommand, first_of}
use Rattle.polcert_terminal.specs.Command.{Texts, at_most_rule, bare_app, bounds_above, names_in, names_view, one_file, three_files}
use Rattle.polcert_answer.specs.declared.task.Task.{Task}
use Rattle.polcert_answer.specs.declared.task.Task.TheVariants as tasks
use Rattle.polcert_terminal.specs.declared.polcert_command.Choice.{Choice}
use Rattle.polcert_terminal.specs.declared.polcert_command.Choice.TheVariants.{Model, Print, Check, CheckAbove, Lower, Raise}
use Rattle.polcert_terminal.specs.declared.polcert_command.Job.{Job}
use Rattle.polcert_terminal.specs.declared.polcert_command.Job.TheVariants as jobs

abbrev pub check_app : App
check_app = with_rule (three_files (codes "check")) at_most_rule

-- the program's command
abbrev pub polcert_app : App
polcert_app = with_subcommand (with_subcommand (with_subcommand (with_subcommand (with_subcommand (bare_app (codes "polcert"))
    (one_file (codes "model")).top) (one_file (codes "print")).top) check_app.top)
    (three_files (codes "lower")).top) (three_files (codes "raise")).top

-- a choice, with the texts of its names
pub data Chosen : Type 0 where
  model : Option Text → Chosen
  print : Text → Chosen
  check : Texts → Chosen
  check_above : Texts → Chosen
  lower : Texts → Chosen
  raise : Texts → Chosen

abbrev pub view_of : Choice → Chosen
view_of (Model file) = model (option_map (λ name. name.now) file)
view_of (Print file) = print file.now
view_of (Check names) = check (names_view names)
view_of (CheckAbove names) = check_above (names_view names)
view_of (Lower names) = lower (names_view names)
view_of (Raise names) = raise (names_view names)

-- what the program does, with the texts of the names
pub data JobView : Type 0 where
  summarize : Option Text → JobView
  print_in_full : Text → JobView
  run : Task → Texts → JobView

abbrev pub job_view : Job → JobView
job_view (jobs.Summarize file) = summarize (option_map (λ name. name.now) file)
job_view (jobs.Print file) = print_in_full file.now
job_view (jobs.Run task names) = run task (names_view names)

-- each choice has its own job
abbrev pub job_of : Chosen → JobView
job_of (model file) = summarize file
job_of (print file) = print_in_full file
job_of (check names) = run tasks.Check names
job_of (check_above names) = run tasks.CheckAbove names
job_of (lower names) = run tasks.Lower names
job_of (raise names) = run tasks.Raise names

-- the choice of a subcommand and its matches
abbrev pub chosen_of : Text → List Row → Option Chosen
chosen_of name rows =
    if bytes_eq name (codes "model") then option_map (λ f. model (Some f)) (first_of (codes "FILE") rows)
    else (if bytes_eq name (codes "print") then option_map print (first_of (codes "FILE") rows)
    else (if bytes_eq name (codes "check") then option_map (if bounds_above rows then check_above else check) (names_in rows)
    else (if bytes_eq name (codes "lower") then option_map lower (names_in rows)
    else (if bytes_eq name (codes "raise") then option_map raise (names_in rows) else None))))

-- no subcommand is `model` on standard input
abbrev pub chosen : Option (Text × List Row) → Option Chosen
chosen None = Some (model None)
chosen (Some found) = chosen_of found.0 found.1
