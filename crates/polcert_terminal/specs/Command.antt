-- What the commands of the programs are made of, as clap sees it, and the values that they share.
use Rattle.std.specs.Prelude.{List, [], Option, Some, option_map, option_and_then, codes, Bool, true, false}
use Rattle.std.specs.Option.{option_map_or}
use Rattle.std.specs.Str.{bytes_eq}
use Rattle.clap.specs.Words.{App, Rule, Row, Text, new_app, new_rule, with_rule, first_of}
use Rattle.clap.specs.declared.builder.action.ArgAction.TheVariants.{Set, SetTrue}
use Rattle.polcert_terminal.specs.declared.command_line.FileNames.{FileNames}

-- a program's name and version, with no subcommand
abbrev pub bare_app : Text → App
bare_app name = record { top = record (new_app name).top { has_version = true }; subs = [] }

-- an argument that takes one value
abbrev pub file_rule : Text → Rule
file_rule id = record (new_rule id) { action = Some Set }

-- a flag: its value is `true` if it was given, and else `false`
abbrev pub at_most_rule : Rule
at_most_rule = record (new_rule (codes "at-most")) { long = Some (codes "at-most"); action = Some SetTrue }

-- a subcommand that takes the name of a model's file
abbrev pub one_file : Text → App
one_file name = with_rule (new_app name) (file_rule (codes "FILE"))

-- one that takes the names of the files of a model, a graph and vectors
abbrev pub three_files : Text → App
three_files name = with_rule (with_rule (one_file name) (file_rule (codes "PG"))) (file_rule (codes "ALPHA"))

-- the texts of three names
pub record Texts : Type 0 where
  pub model : Text
  pub graph : Text
  pub vectors : Text

abbrev pub names_view : FileNames → Texts
names_view names = record { model = names.model.now; graph = names.graph.now; vectors = names.vectors.now }

-- the three names among the matches of a subcommand
abbrev pub names_in : List Row → Option Texts
names_in rows = option_and_then (λ f. option_and_then (λ g. option_map (λ v. record { model = f; graph = g; vectors = v })
    (first_of (codes "ALPHA") rows)) (first_of (codes "PG") rows)) (first_of (codes "FILE") rows)

-- among the matches of a subcommand the flag is `true`
abbrev pub bounds_above : List Row → Bool
bounds_above rows = option_map_or (λ value. bytes_eq value (codes "true")) (first_of (codes "at-most") rows) false
