-- The command line of polcert_bound: its grammar as clap sees it, and the choice of a subcommand and its values. Our own.
--
--     polcert_bound check FILE ALPHA [POINTS]
--     polcert_bound raise FILE ALPHA [POINTS]
use Rattle.std.specs.Prelude.{List, Option, Some, None, option_map, option_and_then, codes, if◌then◌else◌}
use Rattle.std.specs.Str.{bytes_eq}
use Rattle.clap.specs.Words.{App, Rule, Row, Text, with_rule, with_subcommand, first_of}
use Rattle.polcert_terminal.specs.Command.{bare_app, file_rule, one_file}
use Rattle.polcert_terminal.specs.declared.bound_command.BoundFiles.{BoundFiles}
use Rattle.polcert_terminal.specs.declared.bound_command.BoundChoice.{BoundChoice}
use Rattle.polcert_terminal.specs.declared.bound_command.BoundChoice.TheVariants.{Check, CheckPoints, Raise, RaisePoints}

abbrev pub two_files : Text → App
two_files name = with_rule (one_file name) (file_rule (codes "ALPHA"))

-- with a third file, which may be left out
abbrev pub files_and_points : Text → App
files_and_points name = with_rule (two_files name) (file_rule (codes "POINTS"))

-- the program's command
abbrev pub bound_app : App
bound_app = with_subcommand (with_subcommand (bare_app (codes "polcert_bound")) (files_and_points (codes "check")).top) (files_and_points (codes "raise")).top

-- the texts of two names
pub record BoundTexts : Type 0 where
  pub model : Text
  pub vectors : Text

-- a choice, with the texts of its names
pub data BoundChosen : Type 0 where
  check : BoundTexts → BoundChosen
  check_points : BoundTexts → Text → BoundChosen
  raise : BoundTexts → BoundChosen
  raise_points : BoundTexts → Text → BoundChosen

abbrev pub bound_names_view : BoundFiles → BoundTexts
bound_names_view names = record { model = names.model.now; vectors = names.vectors.now }

abbrev pub bound_view_of : BoundChoice → BoundChosen
bound_view_of (Check names) = check (bound_names_view names)
bound_view_of (CheckPoints names points) = check_points (bound_names_view names) points.now
bound_view_of (Raise names) = raise (bound_names_view names)
bound_view_of (RaisePoints names points) = raise_points (bound_names_view names) points.now

-- the two names among the matches of a subcommand
abbrev pub bound_names_in : List Row → Option BoundTexts
bound_names_in rows = option_and_then (λ f. option_map (λ v. record { model = f; vectors = v }) (first_of (codes "ALPHA") rows)) (first_of (codes "FILE") rows)

-- a check of two files, or of three
abbrev pub check_chosen_of : Option Text → BoundTexts → BoundChosen
check_chosen_of None names = check names
check_chosen_of (Some points) names = check_points names points

-- a raise of two files, or of three
abbrev pub raise_chosen_of : Option Text → BoundTexts → BoundChosen
raise_chosen_of None names = raise names
raise_chosen_of (Some points) names = raise_points names points

-- the choice of a subcommand and its matches
abbrev pub bound_chosen_of : Text → List Row → Option BoundChosen
bound_chosen_of name rows =
    if bytes_eq name (codes "check") then option_map (check_chosen_of (first_of (codes "POINTS") rows)) (bound_names_in rows)
    else (if bytes_eq name (codes "raise") then option_map (raise_chosen_of (first_of (codes "POINTS") rows)) (bound_names_in rows) else None)

-- no subcommand is no choice
abbrev pub bound_chosen : Option (Text × List Row) → Option BoundChosen
bound_chosen None = None
bound_chosen (Some found) = bound_chosen_of found.0 found.1
