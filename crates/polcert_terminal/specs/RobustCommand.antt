-- The command line of polcert_robust: its grammar as clap sees it, and the choice of a subcommand and its values. Our own.
--
--     polcert_robust check (--within X | --percent P) [--rewards-within Y] [--at-most] FILE PG ALPHA
--     polcert_robust lower (--within X | --percent P) [--rewards-within Y] FILE PG ALPHA
--     polcert_robust raise (--within X | --percent P) [--rewards-within Y] FILE PG ALPHA
use Rattle.std.specs.Prelude.{List, Option, Some, None, option_map, option_and_then, codes, Bool, if◌then◌else◌}
use Rattle.std.specs.Str.{bytes_eq}
use Rattle.clap.specs.Words.{App, Rule, Row, Text, new_rule, with_rule, with_subcommand, first_of}
use Rattle.clap.specs.declared.builder.action.ArgAction.TheVariants.{Set}
use Rattle.polcert_terminal.specs.Command.{Texts, at_most_rule, bare_app, bounds_above, names_in, names_view, three_files}
use Rattle.polcert_terminal.specs.declared.robust_command.DistanceWords.{DistanceWords}
use Rattle.polcert_terminal.specs.declared.robust_command.Nearness.{Nearness}
use Rattle.polcert_terminal.specs.declared.robust_command.Nearness.TheVariants.{Within, Percent}
use Rattle.polcert_terminal.specs.declared.robust_command.RobustChoice.{RobustChoice}
use Rattle.polcert_terminal.specs.declared.robust_command.RobustChoice.TheVariants.{Check, CheckAbove, Lower, Raise}

-- an option that takes a value
abbrev pub value_rule : Text → Rule
value_rule id = record (new_rule id) { long = Some id; action = Some Set; value_names = 1 }

-- a subcommand that takes the names of the files of a model, a graph and vectors, and the distances
abbrev pub files_and_distances : Text → App
files_and_distances name = with_rule (with_rule (with_rule (three_files name) (value_rule (codes "within"))) (value_rule (codes "percent"))) (value_rule (codes "rewards-within"))

abbrev pub robust_check_app : App
robust_check_app = with_rule (files_and_distances (codes "check")) at_most_rule

-- the program's command
abbrev pub robust_app : App
robust_app = with_subcommand (with_subcommand (with_subcommand (bare_app (codes "polcert_robust")) robust_check_app.top) (files_and_distances (codes "lower")).top) (files_and_distances (codes "raise")).top

-- the text of a distance of probabilities: a decimal, or so many percent of themselves
pub data NearText : Type 0 where
  within : Text → NearText
  percent : Text → NearText

-- just one of the two
abbrev pub just_one : Option Text → Option Text → Option NearText
just_one None None = None
just_one (Some text) None = Some (within text)
just_one None (Some text) = Some (percent text)
just_one (Some text) (Some other) = None

-- the texts of the distances
pub record Distances : Type 0 where
  pub near : NearText
  pub rewards_within : Option Text

-- a choice, with the texts of its names and distances
pub data RobustChosen : Type 0 where
  check : Texts → Distances → RobustChosen
  check_above : Texts → Distances → RobustChosen
  lower : Texts → Distances → RobustChosen
  raise : Texts → Distances → RobustChosen

abbrev pub near_view : Nearness → NearText
near_view (Within text) = within text.now
near_view (Percent text) = percent text.now

abbrev pub distances_view : DistanceWords → Distances
distances_view words = record { near = near_view words.near; rewards_within = option_map (λ text. text.now) words.rewards_within }

abbrev pub robust_view_of : RobustChoice → RobustChosen
robust_view_of (Check files distances) = check (names_view files) (distances_view distances)
robust_view_of (CheckAbove files distances) = check_above (names_view files) (distances_view distances)
robust_view_of (Lower files distances) = lower (names_view files) (distances_view distances)
robust_view_of (Raise files distances) = raise (names_view files) (distances_view distances)

-- the distances among the matches of a subcommand
abbrev pub distances_in : List Row → Option Distances
distances_in rows = option_map (λ near. record { near = near; rewards_within = first_of (codes "rewards-within") rows }) (just_one (first_of (codes "within") rows) (first_of (codes "percent") rows))

-- a check from this side
abbrev pub robust_check_chosen : Bool → Texts → Distances → RobustChosen
robust_check_chosen is_above names distances = if is_above then check_above names distances else check names distances

-- the choice of this kind, if the three names and a distance were given
abbrev pub chosen_near : (Texts → Distances → RobustChosen) → List Row → Option RobustChosen
chosen_near kind rows = option_and_then (λ names. option_map (λ distances. kind names distances) (distances_in rows)) (names_in rows)

-- the choice of a subcommand and its matches
abbrev pub robust_chosen_of : Text → List Row → Option RobustChosen
robust_chosen_of name rows =
    if bytes_eq name (codes "check") then chosen_near (robust_check_chosen (bounds_above rows)) rows
    else (if bytes_eq name (codes "lower") then chosen_near lower rows
    else (if bytes_eq name (codes "raise") then chosen_near raise rows else None))

-- no subcommand is no choice
abbrev pub robust_chosen : Option (Text × List Row) → Option RobustChosen
robust_chosen None = None
robust_chosen (Some found) = robust_chosen_of found.0 found.1
