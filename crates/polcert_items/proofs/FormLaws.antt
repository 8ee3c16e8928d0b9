-- The form of an item, as its reader continues with it: that of a start item, and of every other what is right.
use Rattle.std.proofs.Common.{◌≡◌, ◌∙◌, ◌⊎◌, inl, inr, None, List, ◌∷◌, refl, sym, subst, arith}
use Rattle.polcert_items.proofs.Common.{Lexeme, Elements, StartWeights, Start, IsStartBody, IsStart, IsStartBodyForm, IsStartForm}
use Rattle.polcert_items.proofs.Common.{ModelSoFar, ItemReader, TakesLexeme, CannotTake, ItemGoes, ItemForms, topic_of_reader, pending_in}
use Rattle.polcert_items.proofs.Common.{IfStart}
use Rattle.polcert_cells.specs.declared.words.Topic.{Topic}
use Rattle.polcert_format.specs.Forms as shapes
use Rattle.polcert_items.specs.declared.item.ItemReader.TheVariants as items
use Rattle.polcert_items.proofs.StartNumbers.{small_ones}

pub is_start : (t : Topic) → (t ≡ Start) ⊎ (t ≡ Start → ⊥)
is_start = grind arith

-- ---- what is right has the form

body_form : (states : Elements) (ls : List Lexeme) (v : StartWeights) → IsStartBody states ls v → IsStartBodyForm states ls
body_form = grind (arith, small_ones, shapes.uniform, shapes.name, shapes.state_number, shapes.one_number, shapes.probabilities)

pub start_form : (states : Elements) (ls : List Lexeme) (v : StartWeights) → IsStart states ls v → IsStartForm states ls
start_form = grind (arith, body_form, shapes.plain, shapes.listed)

-- ---- of an item that is no start item

pub right_forms : (k : ModelSoFar) (item : ItemReader) (ls : List Lexeme) (next : ModelSoFar) → (topic_of_reader item ≡ Start → ⊥)
    → ItemGoes k item ls next → ItemForms k item ls tt
right_forms k (items.Start r) ls next other g = absurd (other refl)
right_forms k _ ls next other g = (next, g)

pub forms_right : (k : ModelSoFar) (item : ItemReader) (ls : List Lexeme) → (topic_of_reader item ≡ Start → ⊥) → ItemForms k item ls tt
    → (next : ModelSoFar) × ItemGoes k item ls next
forms_right k (items.Start r) ls other g = absurd (other refl)
forms_right k _ ls other g = g

-- no refusal is held back
pub nothing_pending : (item : ItemReader) → (topic_of_reader item ≡ Start → ⊥) → pending_in item ≡ None
nothing_pending = grind arith

if_start : (t : Topic) (P : Type 0) → t ≡ Start → IfStart t P → P
if_start t P e h = subst (λ u. IfStart u P) e h

-- ---- one lexeme more of any item

module _ (k : ModelSoFar) (old : ItemReader) where
  pub forms_take : (new : ItemReader) (l : Lexeme) → topic_of_reader new ≡ topic_of_reader old
      → TakesLexeme (ItemGoes k) old l new
      → IfStart (topic_of_reader old) (TakesLexeme (ItemForms k) old l new)
      → TakesLexeme (ItemForms k) old l new
  forms_take new l same goes formed = of (is_start _)
    where
      of : (topic_of_reader old ≡ Start) ⊎ (topic_of_reader old ≡ Start → ⊥) → TakesLexeme (ItemForms k) old l new
      of (inl start) = if_start _ _ start formed
      of (inr other) = record {
        back = λ ls any g.
            let r = forms_right k new ls (λ e. other (sym same ∙ e)) g in
            right_forms k old (l ∷ ls) r.0 other (goes.back ls r.0 r.1);
        on = λ ls any g.
            let r = forms_right k old (l ∷ ls) other g in
            right_forms k new ls r.0 (λ e. other (sym same ∙ e)) (goes.on ls r.0 r.1);
      }

  pub forms_stuck : (l : Lexeme) → CannotTake (ItemGoes k) old l
      → IfStart (topic_of_reader old) (CannotTake (ItemForms k) old l) → CannotTake (ItemForms k) old l
  forms_stuck l stuck formless = of (is_start _)
    where
      of : (topic_of_reader old ≡ Start) ⊎ (topic_of_reader old ≡ Start → ⊥) → CannotTake (ItemForms k) old l
      of (inl start) = if_start _ _ start formless
      of (inr other) = λ ls any g. let r = forms_right k old (l ∷ ls) other g in stuck ls r.0 r.1
