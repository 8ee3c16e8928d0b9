-- What a refused or accepted list of tokens says of the whole text.
use Rattle.std.proofs.Common.{◌≡◌, ℕ, None, List, length, ◌<◌, ◌+◌, ◌*◌, ◌⊎◌, inl, inr, subst, arith}
use Rattle.std.proofs.Math.Path.{subst₂}
use Rattle.polcert_policy.proofs.Common.{Lexeme, Rest, IsCut, text_rest, text_limit, Taken, PolicyGraph, IsLooseGraph, IsFirstBeyond}
use Rattle.polcert_policy.proofs.Common.{HasNodesOnly, IsPossibleGraph, IsGraphRefusal, IsTokenRefusal, IsUnfinished, GraphFault}
use Rattle.polcert_policy.specs.GraphText.{EndsEarly, HasWrongToken, HasFirstBeyond, IsNoGraphText, NamesSuccessor, IsRefusedGraphText}
use Rattle.polcert_policy.specs.Steps.GraphRead.{IsEndRefusal}
use Rattle.polcert_policy.specs.declared.fault.GraphFault.TheVariants as faults
use Rattle.polcert_policy.proofs.FlatGraphs.{IsIndexedText, indexed}
use Rattle.polcert_policy.proofs.GraphLaws.{one_loose}
use Rattle.polcert_policy.proofs.Places.{order, same_row, same_column}
use Rattle.polcert_policy.proofs.WholeTexts.{not_stopped, same_tokens, no_token_fault}

pub token_refusal : (a o b p : ℕ) (text : List ℕ) (ts : List Lexeme) (rest : Rest) (fault : GraphFault)
    → a ≡ b → o ≡ p → Taken (text_rest text text_limit) ts rest → IsTokenRefusal a o ts fault → IsGraphRefusal b p text fault
token_refusal = grind arith

module _ (a : ℕ) (o : ℕ) (text : List ℕ) (ts : List Lexeme) where
  early : (place n column : ℕ) → IsCut (text_rest text text_limit) ts None → place ≡ length text
      → IsUnfinished a o ts n column → EndsEarly a o text place n column
  early place n column cut e h = record {
    tokens = ts;
    cut = cut;
    place_is = e;
    possible = h.possible;
    unfinished = h.unfinished;
    column_is = h.column_is;
  }

  end_refusal : (fault : GraphFault)
      → IsCut (text_rest text text_limit) ts None → IsEndRefusal a o ts (length text) fault → IsGraphRefusal a o text fault
  end_refusal (faults.Truncated place) cut h = (h.1.0, (h.1.1.0, early place h.1.0 h.1.1.0 cut h.0 h.1.1.1, h.1.1.2))
  end_refusal (faults.NoNodes place) cut h = early place 0 0 cut h.0 h.1
  end_refusal (faults.SuccessorOutOfRange n z) cut h = (ts, (h.0, cut, h.1, h.2))
  end_refusal _ cut h = absurd h

not_beyond : (g : PolicyGraph) (n z : ℕ) → IsFirstBeyond g n z → HasNodesOnly g → ⊥
not_beyond = grind arith

-- what a refusal says of a text whose tokens are a graph but for the bound on its successors
abbrev NamesBeyond : PolicyGraph → GraphFault → Type 0
NamesBeyond g (faults.SuccessorOutOfRange n z) = IsFirstBeyond g n z
NamesBeyond g faults.Memory = Unit {0}
NamesBeyond g _ = ⊥

module _ (a o : ℕ) (text : List ℕ) (ts : List Lexeme) (g : PolicyGraph) (cut : IsCut (text_rest text text_limit) ts None)
    (loose : IsLooseGraph a o ts g) where
  no_wrong : (fault : GraphFault) → HasWrongToken a o text fault → ⊥
  no_wrong fault h = not_stopped (IsLooseGraph a o) text g ts cut loose h.0 h.1.0 h.1.1 h.1.2.impossible

  not_early : (place n column : ℕ) → EndsEarly a o text place n column → ⊥
  not_early place n column h = h.unfinished g (same_tokens (IsLooseGraph a o) text g ts cut loose h.tokens h.cut)

  names_beyond : (fault : GraphFault) → IsGraphRefusal a o text fault → NamesBeyond g fault
  names_beyond (faults.Token fault) h = no_token_fault (IsLooseGraph a o) text g ts cut loose h.0 fault h.1
  names_beyond (faults.Truncated place) h = not_early place h.0 h.1.0 h.1.1
  names_beyond (faults.NoNodes place) h = not_early place 0 0 h
  names_beyond (faults.SuccessorOutOfRange n z) h =
      subst (λ x. IsFirstBeyond x n z) (one_loose a o h.0 h.1.0 g h.1.2 (same_tokens (IsLooseGraph a o) text g ts cut loose h.0 h.1.1))
      h.1.3
  names_beyond faults.Memory h = tt
  names_beyond _ h = no_wrong _ h

pub no_graph : (a o : ℕ) (text : List ℕ) (fault : GraphFault) → IsGraphRefusal a o text fault → IsNoGraphText a o text fault
no_graph a o text faults.Memory h = tt
no_graph a o text (faults.SuccessorOutOfRange n z) h = λ g given.
    let is = indexed a o text g given in
    not_beyond g n z (names_beyond a o text is.0 g is.1 is.2.loose (faults.SuccessorOutOfRange n z) h) is.2.bound
no_graph a o text fault h = λ g given. let is = indexed a o text g given in names_beyond a o text is.0 g is.1 is.2.loose fault h

pub possible_at : (a b o p : ℕ) (ts : List Lexeme) → a ≡ b → o ≡ p → IsPossibleGraph a o ts → IsPossibleGraph b p ts
possible_at a b o p ts ea eo h = subst₂ (λ x y. IsPossibleGraph x y ts) ea eo h

-- only one successor is the first that isn't a node
pub one_first : (g : PolicyGraph) (n z m y : ℕ) → IsFirstBeyond g n z → IsFirstBeyond g m y → (n ≡ m) × (z ≡ y)
one_first g n z m y a b = at (order _ _)
  where
    not_before : (n z m y : ℕ) → IsFirstBeyond g n z → IsFirstBeyond g m y → n * g.observations + z < m * g.observations + y → ⊥
    not_before n z m y a b l = let small = b.first n z a.observation l a.beyond.0 a.beyond.1 in omega arith

    at : (n * g.observations + z < m * g.observations + y)
        ⊎ ((n * g.observations + z ≡ m * g.observations + y) ⊎ (m * g.observations + y < n * g.observations + z)) → (n ≡ m) × (z ≡ y)
    at (inl l) = absurd (not_before n z m y a b l)
    at (inr (inl e)) = (
      same_row g.observations n m z y a.observation b.observation e,
      same_column g.observations n m z y a.observation b.observation e,
    )
    at (inr (inr l)) = absurd (not_before m y n z b a l)

-- where only the bound on successors fails, the answer names the first that breaks it
pub beyond_named : (a o : ℕ) (text : List ℕ) (fault : GraphFault) → IsGraphRefusal a o text fault
    → (n z : ℕ) → HasFirstBeyond a o text n z → NamesSuccessor n z fault
beyond_named a o text fault r n z h = at fault (names_beyond a o text h.0 h.1.0 h.1.1 h.1.2 fault r)
  where
    at : (f : _) → NamesBeyond h.1.0 f → NamesSuccessor n z f
    at (faults.SuccessorOutOfRange m y) named = one_first h.1.0 m y n z named h.1.3
    at faults.Memory named = tt
    at _ named = absurd named

-- a graph's successors all name nodes
pub none_beyond : (a o : ℕ) (text : List ℕ) (g : PolicyGraph) → IsIndexedText a o text g → (n z : ℕ) → HasFirstBeyond a o text n z → ⊥
none_beyond a o text g is n z h =
    not_beyond h.1.0 n z h.1.3 (subst HasNodesOnly (one_loose a o h.0 g h.1.0
    (same_tokens (IsLooseGraph a o) text g is.0 is.1 is.2.loose h.0 h.1.1) h.1.2) is.2.bound)

-- all that is promised of a refusal
pub refused_text : (a o : ℕ) (text : List ℕ) (fault : GraphFault) → IsGraphRefusal a o text fault → IsRefusedGraphText a o fault text
refused_text = grind (arith, no_graph, beyond_named)

pub end_refused : (a o b p : ℕ) (text : List ℕ) (ts : List Lexeme) (end : ℕ) (fault : GraphFault)
    → a ≡ b → o ≡ p → IsCut (text_rest text text_limit) ts None → end ≡ length text → IsEndRefusal a o ts end fault
    → IsRefusedGraphText b p fault text
end_refused = grind (arith, end_refusal, refused_text)
