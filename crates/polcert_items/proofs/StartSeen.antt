-- What the body of a start item so far has to do with its reader's state, and where its refusals stand.
use Rattle.polcert_items.proofs.Common.{IfErr-weaker, Lexeme, Numeral, NumberFault, ItemFault, Number, IndexOutOfRange}
use Rattle.polcert_items.proofs.Common.{ProbabilityRange, Sign, Refusal, FirstNumber, StateOrNumber, StartReader, FeedError, IsMillionths}
use Rattle.polcert_items.proofs.Common.{Elements, TakesLexeme, CannotTake, IsStartFed, RefusesInStart, ExpectsNext, expected_by_start}
use Rattle.polcert_items.proofs.Common.{count_of, Start}
use Rattle.polcert_items.proofs.Common.{IsRefusedNumber, IsNoFraction, is_sign_kind, ends_in_sign, is_minus_sign, signed_place, IsSignAt}
use Rattle.polcert_items.proofs.Common.{SignIs}
use Rattle.polcert_items.proofs.Common.{Expected, IsMisfit, BeginsWithNumber, BeginsWithDigits, Chosen, Numbers, IfRefused, IsListReason}
use Rattle.polcert_items.proofs.Common.{start_sign, pending_of, pending_refusal, IsValue, IsAfterColon, BeginsWithListWord}
use Rattle.polcert_items.proofs.Common.{IsFraction, HasReadStart, IsOutside, IsDueNumber, IsDueValue, IsStop, due, at_once, IsStartReason}
use Rattle.polcert_items.proofs.Common.{StartGoes, IsStartWithin, first_of}
use Rattle.polcert_format.specs.Reasons.{StandsIn, NumberStandsIn, unsigned, plus, minus}
use Rattle.polcert_items.specs.Steps.Numbers.{SignEnds}
use Rattle.polcert_format.specs.Misfits.{NumberOrEnd}
use Rattle.polcert_items.specs.Steps.Start.{IsFormed, IsKept, IsNumberKept, IsReasonAt, IsReasonIn, IsStartEndKind}
use Rattle.std.proofs.Common.{◌≡◌, ◌∙◌, ℕ, ◌-◌, ◌++◌, Bool, false, true, Option, Some, None, Result, Ok, Err, IfErr, List, [], ◌∷◌, ℤ, refl}
use Rattle.std.proofs.Common.{ap, subst, append_assoc, arith, rules}
use Rattle.polcert_items.specs.declared.signed_number.Range.TheVariants as ranges
use Rattle.polcert_items.specs.declared.start_reader.StartReader.TheVariants as reader
use Rattle.polcert_items.specs.declared.item.FeedError.TheVariants as stops
use Rattle.polcert_items.specs.Steps.Items.{IsEndReason}
use Rattle.polcert_items.specs.Steps.Numbers as steps
use Rattle.polcert_format.specs.FirstNumber as begins
use Rattle.polcert_format.specs.Wants.{number_end}
use Rattle.polcert_items.proofs.PatternLaws.{refused_map, each_refused_map}
use Rattle.polcert_items.proofs.StartNumbers.{digits_stop, digits_stuck, first_is, none_is, valueless_stuck}

some_once : {A : Type 0} {x y : A} → Some x ≡ Some y → x ≡ y
some_once e = cc

-- ---- one lexeme more

pub last_sign : (body : List Lexeme) (l : Lexeme) → ends_in_sign (body ++ l ∷ []) ≡ is_sign_kind l.kind
last_sign (x ∷ y ∷ ys) l = last_sign (y ∷ ys) l
last_sign c l = refl

pub sign_ends : (sign : Option Sign) (body : List Lexeme) (l : Lexeme) → SignIs sign l → SignEnds sign (body ++ l ∷ [])
sign_ends = grind (arith, last_sign)

stands : (body : List Lexeme) (l : Lexeme) (place : ℕ) (Is : Lexeme → Type 0) → place ≡ l.place → Is l → StandsIn (body ++ l ∷ []) place Is
stands body l place Is p so = record { before = body; lexeme = l; after = []; whole = refl; place_is = p; holds = so }

signed_whole : (body before : List Lexeme) (s l : Lexeme) → body ≡ before ++ s ∷ [] → body ++ l ∷ [] ≡ before ++ s ∷ l ∷ []
signed_whole body before s l e = ap (λ (b : List Lexeme). b ++ l ∷ []) e ∙ append_assoc before (s ∷ []) (l ∷ [])

signed_stands : (sign : Sign) (body before : List Lexeme) (s l : Lexeme) (place : ℕ) (Is : Bool → Lexeme → Type 0) → body ≡ before ++ s ∷ []
    → IsSignAt sign s
    → place ≡ sign.place → Is sign.negative l → NumberStandsIn (body ++ l ∷ []) place Is
signed_stands sign body before s l place Is e (steps.plus kind negative at) p so =
    plus before s l [] (signed_whole body before s l e) kind (p ∙ at) (rw (← negative) so)
signed_stands sign body before s l place Is e (steps.minus kind negative at) p so =
    minus before s l [] (signed_whole body before s l e) kind (p ∙ at) (rw (← negative) so)

number_stands : (sign : Option Sign) (body : List Lexeme) (l : Lexeme) (place : ℕ) (Is : Bool → Lexeme → Type 0) → SignEnds sign body
    → place ≡ signed_place sign l
    → Is (is_minus_sign sign) l → NumberStandsIn (body ++ l ∷ []) place Is
number_stands None body l place Is ends p so = unsigned body l [] refl ends p so
number_stands (Some sign) body l place Is ends p so = signed_stands sign body ends.0 ends.1.0 l place Is ends.1.1.0 ends.1.1.1 p so

module _ (body : List Lexeme) where
  more_whole : (before after : List Lexeme) (s l : Lexeme) → body ≡ before ++ s ∷ after
      → body ++ l ∷ [] ≡ before ++ s ∷ (after ++ l ∷ [])
  more_whole before after s l e = ap (λ (b : List Lexeme). b ++ l ∷ []) e ∙ append_assoc before _ (l ∷ [])

  number_more : (l : Lexeme) (place : ℕ) (Is : Bool → Lexeme → Type 0) → NumberStandsIn body place Is
      → NumberStandsIn (body ++ l ∷ []) place Is
  number_more l place Is (unsigned before m after whole ends p so) = unsigned before m _ (more_whole before after m l whole) ends p so
  number_more l place Is (plus before s m after whole kind p so) = plus before s m _ (more_whole before _ s l whole) kind p so
  number_more l place Is (minus before s m after whole kind p so) = minus before s m _ (more_whole before _ s l whole) kind p so

module _ (body : List Lexeme) (place : ℕ) (Is : Bool → Lexeme → Type 0) where
  number_map : (Other : Bool → Lexeme → Type 0)
      → ((negative : Bool) (l : Lexeme) → Is negative l → Other negative l) → NumberStandsIn body place Is → NumberStandsIn body place Other
  number_map Other f (unsigned before m after whole ends p so) = unsigned before m after whole ends p (f false m so)
  number_map Other f (plus before s m after whole kind p so) = plus before s m after whole kind p (f false m so)
  number_map Other f (minus before s m after whole kind p so) = minus before s m after whole kind p (f true m so)

  -- ---- a number that the body begins with

  pub begins_map : (Other : Bool → Lexeme → Type 0) (ls : List Lexeme)
      → ((negative : Bool) (l : Lexeme) → Is negative l → Other negative l) → BeginsWithNumber body place Is ls
      → BeginsWithNumber body place Other ls
  begins_map Other ls f (begins.unsigned c l whole kind p so) = begins.unsigned c l whole kind p (f false l so)
  begins_map Other ls f (begins.plus c s l whole kind is p so) = begins.plus c s l whole kind is p (f false l so)
  begins_map Other ls f (begins.minus c s l whole kind is p so) = begins.minus c s l whole kind is p (f true l so)

  -- and with more after it
  pub begins_more : (ls further : List Lexeme)
      → BeginsWithNumber body place Is ls → BeginsWithNumber (body ++ further) place Is (ls ++ further)
  begins_more ls further (begins.unsigned c l whole kind p so) =
      begins.unsigned c l (ap (λ (b : List Lexeme). b ++ further) whole) kind p so
  begins_more ls further (begins.plus c s l whole kind is p so) =
      begins.plus c s l (ap (λ (b : List Lexeme). b ++ further) whole) kind is p so
  begins_more ls further (begins.minus c s l whole kind is p so) =
      begins.minus c s l (ap (λ (b : List Lexeme). b ++ further) whole) kind is p so

  -- it stands in the body
  begins_stands : (ls : List Lexeme) → BeginsWithNumber body place Is ls
      → NumberStandsIn body place Is
  begins_stands ls (begins.unsigned c l whole kind p so) = unsigned (c ∷ []) l ls whole (ap is_sign_kind kind) p so
  begins_stands ls (begins.plus c s l whole kind is p so) = plus (c ∷ []) s l ls whole is p so
  begins_stands ls (begins.minus c s l whole kind is p so) = minus (c ∷ []) s l ls whole is p so

module _ (count : ℕ) (body : List Lexeme) (place : ℕ) (Is : Lexeme → Type 0) where
  -- digits, with more after them, are a number
  pub digits_begin : (Other : Bool → Lexeme → Type 0) (ls : List Lexeme)
      → ((l : Lexeme) → Is l → Other false l)
      → BeginsWithDigits count body place Is ls → BeginsWithNumber body place Other ls
  digits_begin Other ls f d = begins.unsigned d.colon d.digits d.whole d.is_colon d.place_is (f d.digits d.holds)

  pub digits_more : (Other : Lexeme → Type 0) (ls further : List Lexeme)
      → ((l : Lexeme) → Is l → Other l) → BeginsWithDigits count body place Is ls
      → BeginsWithDigits count (body ++ further) place Other (ls ++ further)
  digits_more = grind arith

-- ---- what was seen

numeral_no_sign : (l : Lexeme) → l.kind ≡ Numeral → is_sign_kind l.kind ≡ false
numeral_no_sign l e = ap is_sign_kind e

-- after the colon, and a sign if there is one, a number begins the body
number_begins : (sign : Option Sign) (body : List Lexeme) (l : Lexeme) (place : ℕ) (Is : Bool → Lexeme → Type 0) → IsAfterColon sign body
    → place ≡ signed_place sign l → Is (is_minus_sign sign) l
    → BeginsWithNumber (body ++ l ∷ []) place Is []
number_begins None body l place Is b p so = begins.unsigned b.0 l (ap (λ (c : List Lexeme). c ++ l ∷ []) b.1) b.2 p so
number_begins (Some sign) body l place Is b p so = at b.4
  where
    whole : body ++ l ∷ [] ≡ b.0 ∷ b.1 ∷ l ∷ []
    whole = ap (λ (c : List Lexeme). c ++ l ∷ []) b.2

    at : IsSignAt sign b.1 → BeginsWithNumber (body ++ l ∷ []) place Is []
    at (steps.plus kind negative there) = begins.plus b.0 b.1 l whole b.3 kind (p ∙ there) (rw (← negative) so)
    at (steps.minus kind negative there) = begins.minus b.0 b.1 l whole b.3 kind (p ∙ there) (rw (← negative) so)

module _ (count : ℕ) where
  first_seen : (sign : Option Sign) (body : List Lexeme) (l : Lexeme) (first : FirstNumber) → IsAfterColon sign body
      → IsNumberKept sign l (reader.Number first)
      → ((place : ℕ) → BeginsWithDigits count (body ++ l ∷ []) place (λ x. Unit {0}) [] → ⊥)
      → HasReadStart count (body ++ l ∷ []) (reader.Number first)
  first_seen sign body l first b k none = search (rules, sign_ends, numeral_no_sign, number_begins)

module _ (count : ℕ) where
  -- after the colon
  pub body_seen : (body : List Lexeme) (l : Lexeme) (r : StartReader) → IsAfterColon None body → IsKept count l r
      → HasReadStart count (body ++ l ∷ []) r
  body_seen body l (reader.StateOrNumber d) b k = grind arith
  body_seen body l (reader.Number first) b k = first_seen count None body l first b k.1 (grind arith)
  body_seen body l _ b k = grind arith

  -- after the first number's sign
  pub numeral_seen : (sign : Sign) (body : List Lexeme) (l : Lexeme) (r : StartReader) → IsAfterColon (Some sign) body
      → IsNumberKept (Some sign) l r → HasReadStart count (body ++ l ∷ []) r
  numeral_seen sign body l (reader.Number first) b k = first_seen count (Some sign) body l first b k (grind arith)
  numeral_seen sign body l c b k = grind arith

  -- the first lexeme
  pub form_seen : (body : List Lexeme) (l : Lexeme) (r : StartReader) → body ≡ [] → IsFormed l r
      → HasReadStart count (body ++ l ∷ []) r
  form_seen = grind arith

  -- a list of states
  pub list_seen : (body : List Lexeme) (l : Lexeme) (c : Chosen) → BeginsWithListWord body → is_sign_kind l.kind ≡ false
      → HasReadStart count (body ++ l ∷ []) (reader.List c)
  list_seen body l c b free = record {
    sign = sign_ends None body l free;
    body_is = (b.0, b.1 ++ l ∷ [], ap (λ (x : List Lexeme). x ++ l ∷ []) b.2, b.3);
  }

module _ (count : ℕ) (body : List Lexeme) (l : Lexeme) where
  -- more numbers
  first_further : (place : ℕ) (n : Numbers ℕ) → BeginsWithNumber body place IsFraction []
      → SignIs n.sign l → HasReadStart count (body ++ l ∷ []) (reader.Probabilities n)
  first_further place n number sign = record {
    sign = sign_ends n.sign body l sign;
    body_is = record { place = place; next = l; following = []; number = begins_more body place _ [] (l ∷ []) number };
  }

  pub number_seen : (f : FirstNumber) (n : Numbers ℕ)
      → HasReadStart count body (reader.Number f) → (IsOutside f.value → ⊥) → SignIs n.sign l
      → HasReadStart count (body ++ l ∷ []) (reader.Probabilities n)
  number_seen f n s inside sign = first_further f.place n
      (begins_map body f.place _ _ [] (λ negative l v. (f.value, v, inside)) s.body_is.number) sign

  pub digits_go_on : (d : StateOrNumber) (f : FirstNumber) (n : Numbers ℕ)
      → HasReadStart count body (reader.StateOrNumber d) → d.value ≡ Ok f.value → (IsOutside f.value → ⊥)
      → SignIs n.sign l → HasReadStart count (body ++ l ∷ []) (reader.Probabilities n)
  digits_go_on d f n s is inside sign =
      first_further d.place n (digits_begin count body d.place _ _ []
      (λ x k. (f.value, subst (λ v. IsValue v false x) is k.value, inside)) s.body_is) sign

  pub further_seen : (m n : Numbers ℕ) → HasReadStart count body (reader.Probabilities m)
      → SignIs n.sign l
      → HasReadStart count (body ++ l ∷ []) (reader.Probabilities n)
  further_seen m n s sign =
      let b = s.body_is in
      record {
        sign = sign_ends n.sign body l sign;
        body_is = record {
          place = b.place;
          next = b.next;
          following = b.following ++ l ∷ [];
          number = begins_more body b.place _ _ (l ∷ []) b.number;
        };
      }

-- ---- reasons

at_number : (body : List Lexeme) (place : ℕ) (Is : Bool → Lexeme → Type 0) (kind : ItemFault)
    → (NumberStandsIn body place Is → IsReasonIn body kind place) → NumberStandsIn body place Is → IsStartReason body kind place
at_number body place Is kind f n = record { stands = grind arith; reason = f n }

token_reason : (body : List Lexeme) (sign : Option Sign) (l : Lexeme) (kind : ItemFault) (place : ℕ) → SignEnds sign body
    → IsReasonAt sign l kind place → IsStartReason (body ++ l ∷ []) kind place
token_reason body sign l (Number fault) place ends r =
    at_number _ place _ (Number fault) (λ n. n)
    (number_stands sign body l place _ ends r.0 r.1)
token_reason body sign l ProbabilityRange place ends r =
    at_number _ place IsNoFraction _ (λ n. n) (number_stands sign body l place IsNoFraction ends r.0 r.1)
token_reason body sign l _ place ends r = grind (arith, stands)

range_reason : (body : List Lexeme) (h : ℤ) (kind : ItemFault) (place at : ℕ) → kind ≡ ProbabilityRange → place ≡ at → IsOutside h
    → NumberStandsIn body at (λ negative l. IsMillionths negative l h) → IsStartReason body kind place
range_reason body h kind place at is p out n =
    let so = number_map body at _ _ (λ negative l v. (h, v, out)) n in
    rw is (rw p
    (at_number body at IsNoFraction _ (λ m. m) so))

fault_reason : (body : List Lexeme) (fault : NumberFault) (kind : ItemFault) (place at : ℕ) → kind ≡ Number fault → place ≡ at
    → NumberStandsIn body at (IsRefusedNumber fault) → IsStartReason body kind place
fault_reason body fault kind place at is p n =
    rw is (rw p
    (at_number body at (IsRefusedNumber fault) _ (λ m. m) n))

module _ (count : ℕ) (body : List Lexeme) where
  pub number_reason : (f : FirstNumber) (w : Expected) (l : Lexeme) (kind : ItemFault) (place : ℕ)
      → HasReadStart count body (reader.Number f)
      → IsStop (IsDueNumber f.value f.place l) None w l kind place → IsStartReason (body ++ l ∷ []) kind place
  number_reason f w l kind place s (at_once m r) = token_reason body None l kind place s.sign r
  number_reason f w l kind place s (due d) = search (rules, number_more, begins_stands, range_reason)

  pub digits_reason : (d : StateOrNumber) (w : Expected) (l : Lexeme) (kind : ItemFault) (place : ℕ)
      → HasReadStart count body (reader.StateOrNumber d)
      → IsStop (IsDueValue d.value d.place l) None w l kind place → IsStartReason (body ++ l ∷ []) kind place
  digits_reason d w l kind place s (at_once m r) = token_reason body None l kind place s.sign r
  digits_reason d w l kind place s (due late) = of_value d.value refl late
    where
      stands_as : (Other : Bool → Lexeme → Type 0) → ((x : Lexeme) → IsValue d.value false x → Other false x)
          → NumberStandsIn (body ++ l ∷ []) d.place Other
      stands_as Other f = number_more body l d.place Other
          (begins_stands body d.place Other [] (digits_begin count body d.place _ Other [] (λ x k. f x k.value) s.body_is))

      of_value : (v : Result ℤ NumberFault) → d.value ≡ v → IsDueValue v d.place l kind place → IsStartReason (body ++ l ∷ []) kind place
      of_value (Ok h) is x = range_reason _ h kind place d.place x.1.1 x.1.2 x.1.0 (stands_as _ (λ m. subst (λ v. IsValue v false m) is))
      of_value (Err f) is x = fault_reason _ f kind place d.place x.0 x.1 (stands_as _ (λ m. subst (λ v. IsValue v false m) is))

  -- digits without a value
  pub pending_reason : (r : StartReader) (f : Refusal) → HasReadStart count body r
      → pending_refusal r ≡ Some f
      → IsStartReason body f.kind f.place
  pending_reason (reader.StateOrNumber d) f s e = of_value d.value refl e
    where
      of_value : (v : Result ℤ NumberFault) → d.value ≡ v → pending_of v d.place ≡ Some f → IsStartReason body f.kind f.place
      of_value (Ok h) is e = cc
      of_value (Err g) is e =
          let same = some_once e in
          rw (← same)
          (fault_reason body g _ d.place d.place refl refl
          (begins_stands body d.place _ [] (digits_begin count body d.place _ _ []
          (λ x k. subst (λ v. IsValue v false x) is k.value) s.body_is)))
  pending_reason _ f s e = cc

pub list_reason : (sign : Option Sign) (l : Lexeme) (kind : ItemFault) (place : ℕ) → IsListReason ranges.Probability sign l kind place
    → IsReasonAt sign l kind place
list_reason = grind arith

-- ---- from a known state

pub fed_as : (states : Elements) (old r new : StartReader) (l : Lexeme) → old ≡ r → IsStartWithin states new
    → TakesLexeme (StartGoes states) r l new
    → ExpectsNext (expected_by_start (count_of states) r) l (expected_by_start (count_of states) new)
    → ((body : List Lexeme) → HasReadStart (count_of states) body r → HasReadStart (count_of states) (body ++ l ∷ []) new)
    → IsStartFed states old l new
fed_as = grind arith

-- what is so of a refusal, if the result is one
abbrev On : {T : Type 0} → Result T FeedError → (Refusal → Type 0) → Type 0
On result P = IfErr result (λ stop. IfRefused stop P)

pub refused_as : {T : Type 0} (result : Result T FeedError) (states : Elements) (old r : StartReader) (l : Lexeme) → old ≡ r
    → On result (RefusesInStart states r l) → On result (RefusesInStart states old l)
refused_as result states old r l is refused = rw is refused

-- the token is refused for itself
pub token_refused : {T : Type 0} (result : Result T FeedError) (states : Elements) (r : StartReader) (l : Lexeme)
    → On result (λ x. CannotTake (StartGoes states) r l)
    → On result (λ x. IsReasonAt (start_sign r) l x.kind x.place)
    → On result (λ x. IsMisfit (expected_by_start (count_of states) r []) l x.kind)
    → On result (RefusesInStart states r l)
token_refused (Err (stops.Refused x)) states r l stuck reason kind =
    record {
      stuck = stuck;
      reason = λ body seen. token_reason body _ l x.kind x.place seen.sign reason;
      stops = at_once kind reason;
    }
token_refused c states r l stuck reason kind = tt

-- or perhaps for the first number
pub number_refused : {T : Type 0} (result : Result T FeedError) (states : Elements) (f : FirstNumber) (l : Lexeme)
    → On result (λ x. CannotTake (StartGoes states) (reader.Number f) l)
    → On result (λ x. IsStop (IsDueNumber f.value f.place l) None (number_end false (count_of states - 1)) l x.kind x.place)
    → On result (RefusesInStart states (reader.Number f) l)
number_refused (Err (stops.Refused x)) states f l stuck stop = search (rules, number_reason)
number_refused c states f l stuck stop = tt

digits_refused : {T : Type 0} (result : Result T FeedError) (states : Elements) (d : StateOrNumber) (l : Lexeme)
    → On result (λ x. CannotTake (StartGoes states) (reader.StateOrNumber d) l)
    → On result (λ x. IsStop (IsDueValue d.value d.place l) None NumberOrEnd l x.kind x.place)
    → On result (RefusesInStart states (reader.StateOrNumber d) l)
digits_refused (Err (stops.Refused x)) states d l stuck stop = search (rules, digits_reason)
digits_refused c states d l stuck stop = tt

-- digits that are the first of more numbers, but these do not continue
pub first_refused : {T : Type 0} (result : Result T FeedError) (states : Elements) (d : StateOrNumber) (f : FirstNumber) (l : Lexeme)
    → Ok f ≡ first_of d.value d.place
    → On result (λ x. CannotTake (StartGoes states) (reader.Number f) l)
    → On result (λ x. IsStop (IsDueNumber f.value f.place l) None NumberOrEnd l x.kind x.place)
    → On result (RefusesInStart states (reader.StateOrNumber d) l)
first_refused result states d f l first stuck stop =
    let is = first_is d.value d.place f first in
    digits_refused result states d l (IfErr-weaker _ _ _ (λ stop g. refused_map stop (digits_stuck states d l f is.0) g) stuck)
    (IfErr-weaker _ _ _ (λ stop g. each_refused_map stop (λ r n. digits_stop d f _ l r.kind r.place is.0 is.1 n) g) stop)

-- digits without a value
pub valueless_refused : (states : Elements) (d : StateOrNumber) (r : Refusal) (l : Lexeme) → Err r ≡ first_of d.value d.place
    → RefusesInStart states (reader.StateOrNumber d) l r
valueless_refused states d r l none =
    let is = none_is d.value d.place r none in
    digits_refused {T = Unit {0}} (Err (stops.Refused r)) states d l (valueless_stuck states d l is.0 is.1)
    (due (rw is.1
    (ap (λ (x : Refusal). x.kind) is.2, ap (λ (x : Refusal). x.place) is.2)))

-- why a list of numbers cannot end
pub end_kind : (kind : ItemFault) → IsEndReason Start kind → IsStartEndKind kind
end_kind = grind arith

module _ (count : ℕ) where
  -- digits that are no state's number
  pub digits_end_reason : (body : List Lexeme) (d : StateOrNumber) → HasReadStart count body (reader.StateOrNumber d)
      → IsStartReason body IndexOutOfRange d.place
  digits_end_reason body d s =
      let b = s.body_is in
      record {
        stands = record { before = b.colon ∷ []; lexeme = b.digits; after = []; whole = b.whole; place_is = b.place_is; holds = tt };
        reason = record {
          before = b.colon ∷ [];
          lexeme = b.digits;
          after = [];
          whole = b.whole;
          place_is = b.place_is;
          holds = grind arith;
        };
      }
