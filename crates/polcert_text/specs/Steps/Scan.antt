-- How far the bytes read so far have come in a gap, or in a lexeme.
-- Nobody has to believe this: only contracts of private functions cite it, and the proofs show that it finds the
-- longest fronts.
use Rattle.std.specs.Prelude.{◌≡◌, ℕ, Bool, true, false, Option, Some, None, List, [], ◌∷◌}
use Rattle.polcert_text.specs.Steps.Classes.{class_of, glue_class}
use Rattle.polcert_text.specs.declared.bytes.ByteClass.{ByteClass}
use Rattle.polcert_text.specs.declared.bytes.ByteClass.TheVariants as classes
use Rattle.polcert_text.specs.declared.tokens.TokenKind.{TokenKind}
use Rattle.polcert_text.specs.declared.tokens.TokenKind.TheVariants as kinds
use Rattle.polcert_text.specs.declared.tokens.Gap.{Gap}
use Rattle.polcert_text.specs.declared.tokens.Gap.TheVariants.{Between, Comment, Ended}
use Rattle.polcert_text.specs.declared.tokens.State.{State}
use Rattle.polcert_text.specs.declared.tokens.State.TheVariants.{Start, Name, Whole, Point, Fraction, Mark, Sign, Exponent, Single, Stuck}

abbrev pub between_after : ByteClass → Gap
between_after classes.Blank = Between
between_after classes.LineEnd = Between
between_after classes.Hash = Comment
between_after _ = Ended

abbrev pub comment_after : ByteClass → Gap
comment_after classes.LineEnd = Between
comment_after _ = Comment

abbrev pub gap_after : Gap → ByteClass → Gap
gap_after Between c = between_after c
gap_after Comment c = comment_after c
gap_after Ended c = Ended

abbrev pub gap_through : Gap → List ℕ → Gap
gap_through gap [] = gap
gap_through gap (b ∷ bs) = gap_through (gap_after gap (class_of b)) bs

abbrev pub start_after : ByteClass → State
start_after classes.Letter = Name
start_after classes.ExponentMark = Name
start_after classes.Digit = Whole
start_after classes.Point = Point
start_after classes.Colon = Single kinds.Colon
start_after classes.Star = Single kinds.Star
start_after classes.Plus = Single kinds.Plus
start_after classes.Minus = Single kinds.Minus
start_after _ = Stuck

abbrev pub name_after : ByteClass → State
name_after classes.Letter = Name
name_after classes.ExponentMark = Name
name_after classes.Digit = Name
name_after classes.Underscore = Name
name_after classes.Minus = Name
name_after _ = Stuck

abbrev pub whole_after : ByteClass → State
whole_after classes.Digit = Whole
whole_after classes.Point = Fraction
whole_after classes.ExponentMark = Mark
whole_after _ = Stuck

abbrev pub point_after : ByteClass → State
point_after classes.Digit = Fraction
point_after _ = Stuck

abbrev pub fraction_after : ByteClass → State
fraction_after classes.Digit = Fraction
fraction_after classes.ExponentMark = Mark
fraction_after _ = Stuck

abbrev pub mark_after : ByteClass → State
mark_after classes.Plus = Sign
mark_after classes.Minus = Sign
mark_after classes.Digit = Exponent
mark_after _ = Stuck

abbrev pub digits_after : ByteClass → State
digits_after classes.Digit = Exponent
digits_after _ = Stuck

abbrev pub state_after : State → ByteClass → State
state_after Start c = start_after c
state_after Name c = name_after c
state_after Whole c = whole_after c
state_after Point c = point_after c
state_after Fraction c = fraction_after c
state_after Mark c = mark_after c
state_after Sign c = digits_after c
state_after Exponent c = digits_after c
state_after (Single kind) c = Stuck
state_after Stuck c = Stuck

abbrev pub state_through : State → List ℕ → State
state_through state [] = state
state_through state (b ∷ bs) = state_through (state_after state (class_of b)) bs

-- the kind of lexeme that a state has read
abbrev pub kind_at : State → Option TokenKind
kind_at Name = Some kinds.Name
kind_at Whole = Some kinds.Numeral
kind_at Fraction = Some kinds.Numeral
kind_at Exponent = Some kinds.Numeral
kind_at (Single kind) = Some kind
kind_at _ = None

abbrev pub is_numeral_kind : Option TokenKind → Bool
is_numeral_kind (Some kinds.Numeral) = true
is_numeral_kind _ = false

-- a byte of this class ends a numeral that may end here, and is not glued to it
pub record EndsNumeral (c : ByteClass) : Type 0 where
  pub whole : state_after Whole c ≡ Stuck
  pub fraction : state_after Fraction c ≡ Stuck
  pub apart : glue_class c ≡ false
