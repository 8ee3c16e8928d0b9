-- What a text denotes can be written, where it is not too large: its names are names, its start has a form, and so has each weight.
use Rattle.std.proofs.Common.{◌≡◌, ℕ, ◌≤◌, true, Option, Some, None, unwrap_or, List, [], ◌∷◌, ◌++◌, length, flat_map, map, All, sym}
use Rattle.std.proofs.Common.{subst, arith, rules}
use Rattle.polcert_full_form.proofs.Common.{All-cons, All-nil, All-head, All-tail, kind_of, Lexeme, IsCut, Elements, StartWeights}
use Rattle.polcert_full_form.proofs.Common.{Topic, Transition, Entry, IsName, count_of, most_states, most_actions, most_observations}
use Rattle.polcert_full_form.proofs.Common.{AreElements, counted, Item, lexemes_of, Preamble, is_mdp, observed, Meaning, meaning_of}
use Rattle.polcert_full_form.proofs.Common.{observation_weight, IsSame, observations_of, all_states, ModelSoFar}
use Rattle.polcert_full_form.proofs.Common.{nothing_known, IsRight, AreRight, IsModelText, IsPrintable, full_form, IsWritableName}
use Rattle.polcert_full_form.proofs.Common.{IsEndObserved, IsWritable}
use Rattle.std.proofs.lemmas.List.{length-map}
use Rattle.polcert_text.proofs.Scanning.CleanCut.{clean_cut}
use Rattle.polcert_text.specs.Cut.{Rest}
use Rattle.polcert_text.specs.declared.tokens.TokenFault.{TokenFault}
use Rattle.polcert_cells.specs.Elements.{named}
use Rattle.polcert_format.specs.Text as texts
use Rattle.polcert_format.proofs.LimitLaws.{within_limits}
use Rattle.polcert_format.proofs.TextLaws.{one_model}
use Rattle.polcert_full_form.proofs.Printing.PrintedPreamble.{AreWritable}
use Rattle.polcert_full_form.proofs.Denoting.RowEntries.{Fits}
use Rattle.polcert_full_form.proofs.Denoting.WeightForms.{weight_fits, observation_fits}
use Rattle.polcert_full_form.proofs.Denoting.StartShapes.{HasShape, start_shape, alike_shape}
use Rattle.polcert_full_form.proofs.Writable.WritableModels.{CanBeWritten, written_writable, written_reads_back}

-- ---- the lexemes of a text
record IsOfText (l : Lexeme) : Type 0 where
  kind : kind_of l.bytes ≡ Some l.kind
  short : length l.bytes ≤ 400

abbrev AreOfText : List Lexeme → Type 0
AreOfText [] = Unit {0}
AreOfText (l ∷ ls) = IsOfText l × AreOfText ls

cut_of_text : (rest : Rest) (ls : List Lexeme) (x : Option TokenFault) → IsCut rest ls x → AreOfText ls
cut_of_text rest [] x c = tt
cut_of_text rest (l ∷ ls) x c = (grind arith, cut_of_text c.0 ls x c.2)

front_of_text : (xs ys : List Lexeme) → AreOfText (xs ++ ys) → AreOfText xs × AreOfText ys
front_of_text [] ys a = (tt, a)
front_of_text (x ∷ xs) ys a = let rest = front_of_text xs ys a.1 in ((a.0, rest.0), rest.1)

-- ---- names
names_writable : (ls : List Lexeme) → AreOfText ls → All IsName ls → All IsWritableName (map (λ l. l.bytes) ls)
names_writable [] a n = All-nil _
names_writable (l ∷ ls) a n =
    let name = All-head IsName l ls n in
    All-cons IsWritableName _ _
    (record { kind = cc; free = name.free; short = a.0.short })
    (names_writable ls a.1 (All-tail IsName l ls n))

elements_writable : (most : ℕ) (ls : List Lexeme) (e : Elements) → AreOfText ls → AreElements most ls e → AreWritable most e
elements_writable most ls e a (counted w l m) = (l, m)
elements_writable most ls e a (named n l m d) = search (rules, length-map, names_writable)

-- ---- what is known
abbrev OneWritable : ℕ → Option Elements → Type 0
OneWritable most None = Unit {0}
OneWritable most (Some e) = AreWritable most e

abbrev StartHasShape : Option Elements → Option StartWeights → Type 0
StartHasShape states None = Unit {0}
StartHasShape None (Some start) = ⊥
StartHasShape (Some states) (Some start) = HasShape (count_of states) start

record KnownWritable (k : ModelSoFar) : Type 0 where
  states : OneWritable most_states k.states
  actions : OneWritable most_actions k.actions
  observations : OneWritable most_observations k.observations
  start : StartHasShape k.states k.start

right_writable : (k : ModelSoFar) (t : Topic) (ls : List Lexeme) (next : ModelSoFar) → AreOfText ls → KnownWritable k → IsRight k t ls next
    → KnownWritable next
right_writable k t ls next h1 h2 h3 = grind (arith, start_shape, elements_writable)

all_writable : (k : ModelSoFar) (items : List Item) (end : ModelSoFar) → AreOfText (flat_map lexemes_of items) → KnownWritable k
    → AreRight k items end → KnownWritable end
all_writable k items end a w texts.none = w
all_writable k (item ∷ items) end a w (texts.more {next = next} t e here following) =
    let parts = front_of_text (lexemes_of item) _ a in
    all_writable next _ end parts.1 (right_writable k t _ next parts.0.1 w here) following

shape_or_all : (e : Elements) (start : Option StartWeights) → StartHasShape (Some e) start
    → HasShape (count_of e) (unwrap_or start (all_states e))
shape_or_all e None s = alike_shape _ _ (λ s. true)
shape_or_all e (Some start) s = s

-- in an MDP the end state is observed
end_observed : (m : Meaning) (p : Preamble) (start : Option StartWeights) (es : List Entry) → IsSame m (meaning_of p start es)
    → is_mdp p ≡ true → IsEndObserved m
end_observed m p start es same mdp = grind arith

-- what a text denotes can be written
pub text_writes : (text : List ℕ) (m : Meaning) → IsModelText text m → CanBeWritten m
text_writes text m x =
    let d = x.denotes in
    let r = d.right in
    let c = r.complete in
    let of_text =
    subst AreOfText r.divided.whole (cut_of_text _ x.lexemes None (clean_cut text _ x.tokens)) in
    let w = all_writable nothing_known _ d.known of_text _ r.right
    in
    let p : m.preamble ≡ d.preamble = d.same.preamble in
    let shape =
    shape_or_all d.preamble.states d.known.start (rw (← c.lines.states) w.start) in
    record {
      limits = within_limits x.lexemes m d;
      rows = d.rows;
      states = grind arith;
      actions = subst (λ (q : Preamble). AreWritable most_actions q.actions) (sym p)
          (subst (OneWritable most_actions) c.lines.actions w.actions);
      observations = grind arith;
      start = subst (λ (q : Preamble). HasShape (count_of q.states) m.start) (sym p)
          (subst (HasShape (count_of d.preamble.states)) (sym d.same.start) shape);
      t = λ a s e l k b. subst (Fits _) (sym (d.same.t a s e l k b)) (rw p (weight_fits d.preamble d.known.entries Transition _));
      o = λ a e z l k b. subst (Fits (observations_of m)) (omega arith)
          (subst (λ (q : Preamble). Fits (count_of (observed q)) (observation_weight d.preamble d.known.entries a e z)) (sym p)
          (observation_fits d.preamble d.known.entries a e z));
      mdp = λ mdp. end_observed m _ d.known.start d.known.entries d.same (subst (λ (q : Preamble). is_mdp q ≡ true) p mdp);
    }

-- the full form of what a text denotes is a text of it
pub reads_back : (text : List ℕ) (m : Meaning) → IsModelText text m → IsPrintable m.preamble → IsModelText (full_form m) m
reads_back text m x = written_reads_back m (text_writes text m x)

-- models of one full form are equal
pub one_form : (text other : List ℕ) (m n : Meaning) → IsModelText text m → IsModelText other n → IsPrintable m.preamble
    → IsPrintable n.preamble → full_form m ≡ full_form n → IsSame m n
one_form text other m n x y p q e = one_model _ m n (reads_back text m x p) (rw e (reads_back _ n y q))

pub text_writable : (text : List ℕ) (m : Meaning) → IsModelText text m → IsWritable m
text_writable text m x = written_writable m (text_writes text m x)
