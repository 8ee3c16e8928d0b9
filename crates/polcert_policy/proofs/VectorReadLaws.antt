-- What is read of vectors after one more token, and why a token is refused.
use Rattle.std.proofs.Common.{◌≡◌, ◌∙◌, ℕ, ℤ, suc, ◌+◌, ◌-◌, ◌*◌, ◌^◌, ◌<◌, ◌≤◌, true, false, if◌then◌else◌, pos, Option, Some, None, Err}
use Rattle.std.proofs.Common.{List, [], ◌∷◌, ◌++◌, length, slice_get, option_map, refl, sym, ap, subst, arith, append_assoc, append-nil}
use Rattle.std.proofs.Common.{length-append}
use Rattle.std.proofs.Math.Path.{transport⁻¹, subst₂, subst⁻¹}
use Rattle.polcert_policy.proofs.Common.{Lexeme, IsReadable, IsRounded, TokenKind, Numeral, Plus, Minus, numeral_kind, minus_kind, is_whole}
use Rattle.polcert_policy.proofs.Common.{whole_number_of, PolicyGraph, nodes, action_of, IsProperGraph, PolicyVectors, Part, sign_kind}
use Rattle.polcert_policy.proofs.Common.{with_sign}
use Rattle.polcert_policy.proofs.Common.{tokens_of, IsPart, IsValuePart, AreVectors, IsRoundedVectors, ArePossible, IsPartColumn, last_sign}
use Rattle.polcert_policy.proofs.Common.{is_part_shaped, IsPartMisfit, AreVectorsUpTo, open_of, kept_sign, is_minus, HasReadVectors}
use Rattle.polcert_policy.proofs.Common.{IsPartRefusal, AdvancedValue, VectorFault, VectorsReading, Rounding}
use Rattle.polcert_text.specs.Numbers.{IsRefused}
use Rattle.polcert_text.specs.declared.number.NumberFault.{NumberFault}
use Rattle.polcert_text.proofs.TextLaws.{readable_not_refused}
use Rattle.polcert_policy.specs.Vectors.{is_negative}
use Rattle.polcert_policy.specs.VectorText.{numbers, number_place, StopVectorsFor}
use Rattle.polcert_policy.specs.Steps.VectorsRead.{place_after, CheckedAction}
use Rattle.polcert_policy.specs.declared.fault.VectorFault.TheVariants as faults
use Rattle.polcert_policy.specs.declared.vectors.OpenSign.{OpenSign}
use Rattle.polcert_policy.proofs.Places.{true_false, some_none, same_some}
use Rattle.polcert_policy.proofs.Fillers.{signed_zero, signed_zero_value}
use Rattle.polcert_policy.proofs.VectorLaws.{head_of, tail_of, cons_not_nil, not_sign, AreParts, front_parts, vector_parts}
use Rattle.polcert_policy.proofs.VectorSteps.{FitsVectors, no_vectors, value_read, step_vector_action, step_value, some_after, needed_part}
use Rattle.polcert_policy.proofs.VectorSteps.{can_end, possible_parts, tokens-append}
use Rattle.polcert_policy.proofs.GraphLaws.{IsAfter}

pub drop_same : {X : Type 0} (xs ys zs : List X) → xs ++ ys ≡ xs ++ zs → ys ≡ zs
drop_same [] ys zs e = e
drop_same (x ∷ xs) ys zs e = drop_same xs ys zs (tail_of x x _ _ e)

small_actions : (g : PolicyGraph) → IsProperGraph g → (n : ℕ) → n < nodes g → action_of g n < 2 ^ 64
small_actions g proper n l = omega arith

sign_no_numeral : (k : TokenKind) → sign_kind k ≡ true → numeral_kind k ≡ false
sign_no_numeral k h1 = grind arith

-- a numeral before tokens that end in no sign
after_numeral : (t : Lexeme) (us : List Lexeme) → numeral_kind t.kind ≡ true → last_sign us ≡ None → last_sign (t ∷ us) ≡ None
after_numeral t us h1 h2 = grind arith

after_open : (u s : Lexeme) (ts : List Lexeme) → last_sign (ts ++ s ∷ []) ≡ Some s → last_sign (u ∷ (ts ++ s ∷ [])) ≡ Some s
after_open u s ts h1 = grind arith

-- the sign that ends what was read
last_open : (ps : List Part) (sign : Option Lexeme) → AreParts ps → ((s : Lexeme) → sign ≡ Some s → sign_kind s.kind ≡ true)
    → last_sign (tokens_of ps ++ open_of sign) ≡ sign
last_open [] None parts is = refl
last_open [] (Some s) parts is = ap (λ b. if b then Some s else None) (is s refl)
last_open (p ∷ ps) sign parts is = at p.sign sign (last_open ps sign (λ k. parts (suc k)) is)
  where
    first : (u : _) → last_sign (tokens_of ps ++ open_of u) ≡ u → last_sign (p.token ∷ (tokens_of ps ++ open_of u)) ≡ u
    first None was = after_numeral p.token (tokens_of ps ++ []) (parts 0 p refl).numeral was
    first (Some s) was = after_open p.token s (tokens_of ps) was

    at : (u v : _) → last_sign (tokens_of ps ++ open_of v) ≡ v
        → last_sign ((with_sign u p.token ++ tokens_of ps) ++ open_of v) ≡ v
    at u v h1 = grind (arith, first)

module _ (t : Lexeme) (ts : List Lexeme) where
  one_number : numeral_kind t.kind ≡ true → numbers (t ∷ ts) ≡ suc (numbers ts)
  one_number e = ap (λ b. if b then suc (numbers ts) else numbers ts) e

  no_number : numeral_kind t.kind ≡ false → numbers (t ∷ ts) ≡ numbers ts
  no_number e = ap (λ b. if b then suc (numbers ts) else numbers ts) e

-- each part has one numeral
numbers_of : (ps : List Part) (sign : Option Lexeme) → AreParts ps → ((s : Lexeme) → sign ≡ Some s → sign_kind s.kind ≡ true)
    → numbers (tokens_of ps ++ open_of sign) ≡ length ps
numbers_of [] None parts is = refl
numbers_of [] (Some s) parts is = no_number s [] (sign_no_numeral s.kind (is s refl))
numbers_of (p ∷ ps) sign parts is = at p.sign refl (numbers_of ps sign (λ k. parts (suc k)) is)
  where
    one : numbers (p.token ∷ (tokens_of ps ++ open_of sign)) ≡ suc (numbers (tokens_of ps ++ open_of sign))
    one = one_number p.token (tokens_of ps ++ open_of sign) (parts 0 p refl).numeral

    at : (u : _) → p.sign ≡ u → numbers (tokens_of ps ++ open_of sign) ≡ length ps
        → numbers ((with_sign u p.token ++ tokens_of ps) ++ open_of sign) ≡ suc (length ps)
    at None e was = one ∙ ap suc was
    at (Some s) e was = no_number s (p.token ∷ (tokens_of ps ++ open_of sign)) (sign_no_numeral s.kind ((parts 0 p refl).signed s e)) ∙ one
        ∙ ap suc was

module _ (sign : Option Lexeme) where
  open_place : (t : Lexeme) → place_after (option_map kept_sign sign) t.place ≡ number_place sign t
  open_place t = grind arith

  open_minus : is_minus (option_map kept_sign sign) ≡ is_negative sign
  open_minus = grind arith

  none_kept : option_map kept_sign sign ≡ None → sign ≡ None
  none_kept h1 = grind arith

  open_tokens : (t : Lexeme) → open_of sign ++ t ∷ [] ≡ with_sign sign t
  open_tokens t = grind arith

abbrev plain_part : Option Lexeme → Lexeme → Part
plain_part s t = record { sign = s; token = t }

-- the tokens of one more part
pub spelled_more : (seen : List Lexeme) (ps : List Part) (sign : Option Lexeme) (t : Lexeme) → seen ≡ tokens_of ps ++ open_of sign
    → seen ++ t ∷ [] ≡ tokens_of (ps ++ plain_part sign t ∷ []) ++ []
spelled_more seen ps sign t e = grind (arith, append_assoc, tokens-append)

-- neither a numeral nor a sign
pub other_kind : (k : TokenKind) → (k ≡ Numeral → ⊥) → (k ≡ Plus → ⊥) → (k ≡ Minus → ⊥) → (numeral_kind k ≡ false)
    × (sign_kind k ≡ false)
other_kind k h1 h2 h3 = grind arith

-- what comes next in vectors that continue with a token
pub record NextPart (way : Rounding) (g : PolicyGraph) (o : ℕ) (ps : List Part) (node column : ℕ) (ws : List ℤ) (x : Lexeme)
    (more : List Lexeme) : Type 0 where
  pub part : Part
  pub rest : List Part
  pub tokens : x ∷ more ≡ with_sign part.sign part.token ++ tokens_of rest
  pub is_part : IsPart part
  pub fits : FitsVectors way g o node column part ws
  pub count : length ps + suc (length rest) ≡ nodes g * (1 + o)

-- no vectors continue so
abbrev Continues : Rounding → PolicyGraph → ℕ → List Part → Option Lexeme → Lexeme → Type 0
Continues way g o ps sign t = (more : List Lexeme) (v : PolicyVectors)
    → IsRoundedVectors way g o (tokens_of ps ++ (with_sign sign t ++ more)) v → ⊥

module _ {way : Rounding} where
  pub next_part : (g : PolicyGraph) (o : ℕ) (ps : List Part) (node column : ℕ) (vs : List ℤ) (x : Lexeme) (more : List Lexeme)
      (v : PolicyVectors)
      → AreVectorsUpTo way g o ps node column vs → IsRoundedVectors way g o (tokens_of ps ++ x ∷ more) v
      → NextPart way g o ps node column v.values x more
  next_part g o ps node column vs x more v old all =
      let found = front_parts ps all.parts (x ∷ more) (vector_parts g o ps vs old.records)
      (vector_parts g o all.parts v.values all.records)
      all.spelled in
      at found.0 found.1 (drop_same (tokens_of ps) (x ∷ more) _
      (all.spelled ∙ ap tokens_of found.1 ∙ tokens-append ps found.0))
    where
      at : (rest : _) → all.parts ≡ ps ++ rest → x ∷ more ≡ tokens_of rest → NextPart way g o ps node column v.values x more
      at [] e tokens = absurd (cons_not_nil x more tokens)
      at (p ∷ rest) e tokens =
          let records = subst (λ qs. AreVectors way g o qs v.values) e all.records in
          record {
            part = p;
            rest = rest;
            tokens = tokens;
            is_part = vector_parts g o _ v.values records (length ps) p (here ps rest p);
            fits = needed_part g o ps rest p node column vs v.values old records;
            count = sym (length-append ps (p ∷ rest)) ∙ sym (ap length e) ∙ all.count;
          }
        where
          here : (ps rest : _) (p : Part) → slice_get (ps ++ p ∷ rest) (length ps) ≡ Some p
          here [] rest p = refl
          here (q ∷ ps) rest p = here ps rest p

  -- a numeral that comes next is a number without a sign
  pub unsigned_part : (g : PolicyGraph) (o : ℕ) (ps : List Part) (node column : ℕ) (ws : List ℤ) (t : Lexeme) (more : List Lexeme)
      → numeral_kind t.kind ≡ true → (n : NextPart way g o ps node column ws t more) → (n.part.sign ≡ None) × (t ≡ n.part.token)
  unsigned_part g o ps node column ws t more numeral n = at n.part.sign refl n.tokens
    where
      at : (s : _) → n.part.sign ≡ s → t ∷ more ≡ with_sign s n.part.token ++ tokens_of n.rest → (n.part.sign ≡ None)
          × (t ≡ n.part.token)
      at None e tokens = (e, head_of t n.part.token _ _ tokens)
      at (Some s) e tokens = absurd (not_sign s t (sym (head_of t s _ _ tokens)) (n.is_part.signed s e) numeral)

  -- after a sign that comes next stands the number's numeral
  pub signed_part : (g : PolicyGraph) (o : ℕ) (ps : List Part) (node column : ℕ) (ws : List ℤ) (s t : Lexeme) (more : List Lexeme)
      → sign_kind s.kind ≡ true → (n : NextPart way g o ps node column ws s (t ∷ more)) → (n.part.sign ≡ Some s) × (t ≡ n.part.token)
  signed_part g o ps node column ws s t more sign n = grind arith

  -- what comes next is a numeral or a sign
  pub number_begins : (g : PolicyGraph) (o : ℕ) (ps : List Part) (node column : ℕ) (ws : List ℤ) (t : Lexeme) (more : List Lexeme)
      → numeral_kind t.kind ≡ false → sign_kind t.kind ≡ false → NextPart way g o ps node column ws t more → ⊥
  number_begins g o ps node column ws t more no_numeral no_sign n = grind arith

  -- what holds without an open sign, and with each that is kept rightly, holds
  pub by_sign : (g : PolicyGraph) (seen : List Lexeme) (r : VectorsReading) (h : HasReadVectors way g seen r) (P : Option Lexeme → Type 0)
      → P None
      → ((s : Lexeme) → h.sign ≡ Some s → sign_kind s.kind ≡ true → 0 < r.column → P (Some s)) → P h.sign
  by_sign g seen r h P none some = grind arith

  -- what is read is possible
  pub possible_seen : (g : PolicyGraph) (seen : List Lexeme) (r : VectorsReading) → 1 ≤ r.states → HasReadVectors way g seen r
      → ArePossible way g r.states seen
  possible_seen g seen r some h = subst⁻¹ (λ ts. ArePossible way g r.states ts) h.spelled
      (by_sign g seen r h (λ sign. ArePossible way g r.states (tokens_of h.parts ++ open_of sign))
      (subst⁻¹ (λ ts. ArePossible way g r.states ts) (append-nil _)
      (filled h.parts r.node r.column r.values.items h.vectors)) signed)
    where
      filled : (ps : _) (node column : ℕ) (vs : _) → AreVectorsUpTo way g r.states ps node column vs
          → ArePossible way g r.states (tokens_of ps)
      filled ps node column vs old = possible_parts g r.states ps (can_end g r.states some (small_actions g h.proper) ps node column vs old)

      signed : (s : _) → h.sign ≡ Some s → sign_kind s.kind ≡ true → 0 < r.column
          → ArePossible way g r.states (tokens_of h.parts ++ s ∷ [])
      signed s is kind begun =
          let zero = signed_zero s in
          let old =
          value_read g r.states h.parts r.node r.column r.values.items begun h.vectors in
          let next = some_after r.states r.node (r.column - 1) (omega arith) in
          let more = filled _ _ _ _ (step_value g r.states h.parts zero (pos 0) r.node (r.column - 1) next.0 next.1.0 r.values.items old
          (signed_zero_value s kind) next.1.1) in (
            zero.token ∷ more.0,
            (
              more.1.0,
              subst (λ ts. IsRoundedVectors way g r.states ts more.1.0) (ap (λ ts. ts ++ more.0) (tokens-append h.parts (zero ∷ []))
                  ∙ append_assoc (tokens_of h.parts) (s ∷ zero.token ∷ []) more.0
                  ∙ sym (append_assoc (tokens_of h.parts) (s ∷ []) (zero.token ∷ more.0))) more.1.1,
            ),
          )

  -- at a vector's action no sign is open
  pub closed_lexeme : (g : PolicyGraph) (seen : List Lexeme) (r : VectorsReading) (h : HasReadVectors way g seen r) → r.column ≡ 0
      → h.sign ≡ None
  closed_lexeme g seen r h e = by_sign g seen r h (λ sign. sign ≡ None) refl (λ s is kind begun. absurd (omega (arith, begun, e)))

  closed_sign : (g : PolicyGraph) (seen : List Lexeme) (r : VectorsReading) → HasReadVectors way g seen r → r.column ≡ 0 → r.sign ≡ None
  closed_sign g seen r h e = h.kept ∙ ap (option_map kept_sign) (closed_lexeme g seen r h e)

  -- the place that is read next
  pub column_read : (g : PolicyGraph) (seen : List Lexeme) (r : VectorsReading) → HasReadVectors way g seen r
      → IsPartColumn r.states seen r.node r.column
  column_read g seen r h = record {
    count = ap numbers h.spelled ∙ numbers_of h.parts h.sign (vector_parts g r.states h.parts r.values.items h.vectors.records)
        (λ s e. (h.signed s e).0) ∙ h.vectors.count;
    within = h.vectors.within;
  }

  module _ (g : PolicyGraph) (seen : List Lexeme) (r : VectorsReading) (t : Lexeme) (some : 1 ≤ r.states) (h : HasReadVectors way g seen r)
    where
      last_seen : last_sign seen ≡ h.sign
      last_seen = ap last_sign h.spelled ∙ last_open h.parts h.sign (vector_parts g r.states h.parts r.values.items h.vectors.records)
          (λ s e. (h.signed s e).0)

      place_seen : (place : ℕ) → place ≡ place_after r.sign t.place → place ≡ number_place (last_sign seen) t
      place_seen place e = e ∙ ap (λ u. place_after u t.place) h.kept ∙ open_place h.sign t ∙ ap (λ s. number_place s t) (sym last_seen)

      column_at : (c : ℕ) → r.column ≡ c → IsPartColumn r.states seen r.node c
      column_at c e = subst (λ x. IsPartColumn r.states seen r.node x) e (column_read g seen r h)

      value_column : 0 < r.column → IsPartColumn r.states seen r.node (suc (r.column - 1))
      value_column begun = column_at _ (omega (arith, begun))

      stop_seen : (fault : VectorFault) → IsPartMisfit g r.states seen t fault → Continues way g r.states h.parts h.sign t
          → StopVectorsFor way g r.states (seen ++ t ∷ []) fault
      stop_seen fault misfit none = record {
        before = seen;
        token = t;
        spelled = refl;
        possible = possible_seen g seen r some h;
        impossible = λ x. none x.0 x.1.0 (subst (λ ts. IsRoundedVectors way g r.states ts x.1.0) (tokens x.0) x.1.1);
        wrong = misfit;
      }
        where
          tokens : (more : _) → (seen ++ t ∷ []) ++ more ≡ tokens_of h.parts ++ (with_sign h.sign t ++ more)
          tokens more = grind (arith, append_assoc, open_tokens)

      next : (x : Lexeme) (more : List Lexeme) (v : PolicyVectors) → IsRoundedVectors way g r.states (tokens_of h.parts ++ x ∷ more) v
          → NextPart way g r.states h.parts r.node r.column v.values x more
      next x more v all = next_part g r.states h.parts r.node r.column r.values.items x more v h.vectors all

      stop_action : (fault : VectorFault) → r.column ≡ 0 → IsPartMisfit g r.states seen t fault
          → ((more : List Lexeme) (v : PolicyVectors) → NextPart way g r.states h.parts r.node r.column v.values t more → ⊥)
          → StopVectorsFor way g r.states (seen ++ t ∷ []) fault
      stop_action fault e misfit none =
          stop_seen fault misfit
          (λ more v all. none more v (next t more v
          (subst (λ s. IsRoundedVectors way g r.states (tokens_of h.parts ++ (with_sign s t ++ more)) v) (closed_lexeme g seen r h e)
          all)))

      -- the token that comes next in place of an action
      action_next : (ws : List ℤ) (more : List Lexeme) → r.column ≡ 0 → NextPart way g r.states h.parts r.node r.column ws t more
          → (is_whole t ≡ true) × (whole_number_of t ≡ action_of g r.node)
      action_next ws more e n = grind arith

      pub refuse_vector_action : (fault : VectorFault) → r.column ≡ 0 → CheckedAction g r.node t (Err fault)
          → IsPartRefusal way g r.states (seen ++ t ∷ []) fault
      refuse_vector_action (faults.WrongVectorCount place) e c =
          let all : r.node ≡ nodes g = omega arith in
          stop_action (faults.WrongVectorCount place) e (c.0, subst (λ n. IsPartColumn r.states seen n 0) all (column_at 0 e))
          (λ more v n. omega (arith, n.count, h.vectors.count, above (nodes g) r.node c.1))
        where
          above : (m n : ℕ) → m ≤ n → m * (1 + r.states) ≤ n * (1 + r.states)
          above m n l = grind (arith, l)
      refuse_vector_action (faults.BadShape place) e c =
          stop_action (faults.BadShape place) e (
            place_seen place (c.0 ∙ ap (λ u. place_after u t.place) (sym (closed_sign g seen r h e))),
            (r.node, (0, column_at 0 e, c.1, c.2)),
          )
          (λ more v n. true_false (action_next v.values more e n).0 c.2)
      refuse_vector_action (faults.ActionMismatch place) e c =
          stop_action (faults.ActionMismatch place) e (c.0, (r.node, column_at 0 e, c.1, c.2, c.3))
          (λ more v n. c.3 (action_next v.values more e n).1)
      refuse_vector_action _ e c = absurd c

      -- a token that is neither a numeral nor a first sign
      pub refuse_other : (place : ℕ) → 0 < r.column → place ≡ place_after r.sign t.place → numeral_kind t.kind ≡ false
          → sign_kind t.kind ≡ false → StopVectorsFor way g r.states (seen ++ t ∷ []) (faults.BadShape place)
      refuse_other place begun e no_numeral no_sign =
          stop_seen (faults.BadShape place) (
            place_seen place e,
            (r.node, (suc (r.column - 1), value_column begun, h.vectors.few_begun begun, shape _)),
          )
          (by_sign g seen r h (λ sign. Continues way g r.states h.parts sign t)
          (λ more v all. number_begins g r.states h.parts r.node r.column v.values t more no_numeral no_sign (next t more v all))
          (λ s is kind begun more v all.
          let n = next s (t ∷ more) v all in
          let p = signed_part g r.states h.parts r.node r.column v.values s t more kind n in
          true_false (subst (λ x. numeral_kind x.kind ≡ true) (sym p.1) n.is_part.numeral) no_numeral))
        where
          shape : (s : _) → is_part_shaped (suc (r.column - 1)) s t ≡ false
          shape s = grind arith

      -- a sign after a sign
      pub refuse_second_sign : (u : OpenSign) → 0 < r.column → r.sign ≡ Some u → sign_kind t.kind ≡ true
          → StopVectorsFor way g r.states (seen ++ t ∷ []) (faults.BadShape u.place)
      refuse_second_sign u begun e sign =
          let open_one = sym e ∙ h.kept in
          stop_seen (faults.BadShape u.place) (
            place_seen u.place (ap (λ x. place_after x t.place) (sym e)),
            (
              r.node,
              (
                suc (r.column - 1),
                value_column begun,
                h.vectors.few_begun begun,
                subst⁻¹ (λ s. is_part_shaped (suc (r.column - 1)) s t ≡ false) last_seen (shape h.sign open_one),
              ),
            ),
          )
          (at h.sign h.signed open_one)
        where
          shape : (s : _) → Some u ≡ option_map kept_sign s → is_part_shaped (suc (r.column - 1)) s t ≡ false
          shape s h1 = grind arith

          at : (sign : _) → ((s : Lexeme) → sign ≡ Some s → (sign_kind s.kind ≡ true) × (0 < r.column))
              → Some u ≡ option_map kept_sign sign → Continues way g r.states h.parts sign t
          at None signed is = absurd (some_none u (sym is))
          at (Some s) signed is = λ more v all.
              let n = next s (t ∷ more) v all in
              let p = signed_part g r.states h.parts r.node r.column v.values s t more (signed s refl).0 n in
              not_sign t n.part.token p.1 sign n.is_part.numeral

      -- a numeral that can't be read
      pub refuse_numeral : (fault : NumberFault) (place : ℕ) → 0 < r.column → place ≡ place_after r.sign t.place
          → numeral_kind t.kind ≡ true
          → IsRefused t.bytes fault → StopVectorsFor way g r.states (seen ++ t ∷ []) (faults.Number fault place)
      refuse_numeral fault place begun e numeral refused =
          stop_seen (faults.Number fault place) (place_seen place e, (r.node, (r.column - 1, value_column begun)), numeral, refused)
          (by_sign g seen r h (λ sign. Continues way g r.states h.parts sign t)
          (λ more v all. let n = next t more v all in unreadable n.part v.values n.fits
          (unsigned_part g r.states h.parts r.node r.column v.values t more numeral n).1)
          (λ s is kind begun more v all.
          let n = next s (t ∷ more) v all in
          unreadable n.part v.values n.fits (signed_part g r.states h.parts r.node r.column v.values s t more kind n).1))
        where
          unreadable : (p : Part) (ws : _) → FitsVectors way g r.states r.node r.column p ws → t ≡ p.token → ⊥
          unreadable p ws fits same =
              let value = fits.value (r.column - 1) (omega (arith, begun)) in
              readable_not_refused t.bytes fault (subst (λ x. IsReadable x.bytes) (sym same) value.2.readable) refused

  -- an action is read
  pub read_vector_action : (g : PolicyGraph) (old new : VectorsReading) (seen : List Lexeme) (t : Lexeme)
      → 1 ≤ old.states → old.column ≡ 0 → new.states ≡ old.states → new.node ≡ old.node → new.column ≡ 1 → new.values ≡ old.values
      → new.sign ≡ old.sign
      → HasReadVectors way g seen old → old.node < nodes g → is_whole t ≡ true → whole_number_of t ≡ action_of g old.node
      → HasReadVectors way g (seen ++ t ∷ []) new
  read_vector_action g old new seen t some e states node column values sign h few whole value =
      let at = subst (λ c. AreVectorsUpTo way g old.states h.parts old.node c old.values.items) e h.vectors in
      let stepped = step_vector_action g old.states h.parts _ old.node _ some at few
      (record { unsigned = refl; whole = whole; value = value }) in
      record {
        proper = h.proper;
        parts = h.parts ++ plain_part None t ∷ [];
        sign = None;
        vectors = transport⁻¹ (λ i. AreVectorsUpTo way g (states i) (h.parts ++ plain_part None t ∷ []) (node i) (column i)
            (values i).items) stepped;
        spelled = spelled_more seen h.parts None t (h.spelled ∙ ap (λ s. tokens_of h.parts ++ open_of s) (closed_lexeme g seen old h e));
        kept = sign ∙ closed_sign g seen old h e;
        signed = λ s same. absurd (some_none s same);
      }

  -- a first sign is read
  pub read_sign : (g : PolicyGraph) (old new : VectorsReading) (seen : List Lexeme) (t : Lexeme) (u : OpenSign)
      → 0 < old.column → old.sign ≡ None → new.states ≡ old.states → new.node ≡ old.node → new.column ≡ old.column
      → new.values ≡ old.values
      → new.sign ≡ Some u
      → sign_kind t.kind ≡ true → u.place ≡ t.place → u.is_negative ≡ minus_kind t.kind → HasReadVectors way g seen old
      → HasReadVectors way g (seen ++ t ∷ []) new
  read_sign g old new seen t u begun none states node column values sign kind place minus h =
      record {
        proper = h.proper;
        parts = h.parts;
        sign = Some t;
        vectors = transport⁻¹ (λ i. AreVectorsUpTo way g (states i) h.parts (node i) (column i) (values i).items) h.vectors;
        spelled = ap (λ ts. ts ++ t ∷ []) (h.spelled ∙ ap (λ s. tokens_of h.parts ++ open_of s) (none_kept h.sign (sym h.kept ∙ none))
            ∙ append-nil _);
        kept = sign ∙ (λ i. Some (record { place = place i; is_negative = minus i }));
        signed = λ s same. (subst (λ x. sign_kind x.kind ≡ true) (same_some t s same) kind, omega arith);
      }

  -- a number is read
  pub read_value : (g : PolicyGraph) (old mid new : VectorsReading) (seen : List Lexeme) (t : Lexeme) (value : ℤ)
      → 0 < old.column → numeral_kind t.kind ≡ true → IsReadable t.bytes → IsRounded way (is_minus old.sign) t.bytes value
      → mid.states ≡ old.states → mid.node ≡ old.node → mid.column ≡ old.column → mid.sign ≡ None
      → mid.values.items ≡ old.values.items ++ value ∷ []
      → AdvancedValue mid new → HasReadVectors way g seen old → HasReadVectors way g (seen ++ t ∷ []) new
  read_value g old mid new seen t value begun numeral readable rounded states node column sign values next h =
      let p = plain_part h.sign t in
      let part : IsValuePart way p value = record {
        part = record { numeral = numeral; signed = λ s e. (h.signed s e).0 };
        readable = readable;
        rounded = subst (λ b. IsRounded way b t.bytes value) (ap is_minus h.kept ∙ open_minus h.sign) rounded;
      } in
      let following : IsAfter 1 old.states old.node (old.column - 1) new.node new.column = record {
        inside = λ l. let is = next.inside (omega arith) in
            (is.0 ∙ node, omega (arith, is.1, column, begun));
        last = λ f. let is = next.last (omega arith) in (omega (arith, is.0, node), is.1);
      } in
      let at = value_read g old.states h.parts old.node old.column _ begun h.vectors in
      let stepped = step_value g old.states h.parts p value old.node (old.column - 1) new.node new.column _ at part
      following
      in
      record {
        proper = h.proper;
        parts = h.parts ++ p ∷ [];
        sign = None;
        vectors = subst₂ (λ o xs. AreVectorsUpTo way g o (h.parts ++ p ∷ []) new.node new.column xs) (sym (next.states_same ∙ states))
            (sym (ap (λ v. v.items) next.values_same ∙ values)) stepped;
        spelled = spelled_more seen h.parts h.sign t h.spelled;
        kept = next.sign_same ∙ sign;
        signed = λ s e. absurd (some_none s e);
      }

  -- nothing is read yet
  pub none_read : (g : PolicyGraph) (r : VectorsReading) → IsProperGraph g → r.node ≡ 0 → r.column ≡ 0 → r.values.items ≡ []
      → r.sign ≡ None
      → HasReadVectors way g [] r
  none_read g r proper node column values sign = record {
    proper = proper;
    parts = [];
    sign = None;
    vectors = transport⁻¹ (λ i. AreVectorsUpTo way g r.states [] (node i) (column i) (values i)) (no_vectors g r.states);
    spelled = refl;
    kept = sign;
    signed = λ s e. absurd (some_none s e);
  }
