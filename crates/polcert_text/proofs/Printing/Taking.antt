-- Lemmas on what a sink took.
use Rattle.std.proofs.Common.{IsErr, append_assoc, ◌≡◌, ◌+◌, ◌++◌, ℕ, List, Option, Some, None, Result, OnErr, take, drop, sym, arith}
use Rattle.std.proofs.lemmas.List.{take-append-drop, append-nil}
use Rattle.std.proofs.Math.Seq.{take-add}
use Rattle.polcert_text.proofs.Common.{HasFailed, Takes, TakesFront, WritesText}
use Rattle.polcert_text.specs.Sink.{nothing, more}

-- what holds anyway holds of an `Err`
pub on_err : {T E : Type 0} {P : Type 0} (r : Result T E) → P → OnErr r P
on_err = grind arith

module _ {S : Type 0} {writes : S → Option (List ℕ) → S → Type 0} {from : S} where
  -- one more write of a loop over the bytes
  pub took_more : (bytes : List ℕ) (at n : ℕ) (s t : S) → Takes writes from (take at bytes) s
      → writes s (Some (take n (drop at bytes))) t → Takes writes from (take (at + n) bytes) t
  took_more bytes at n s t took call = rw (take-add at n bytes) (more took call)

  -- the loop's last write failed
  pub took_front : (bytes : List ℕ) (at : ℕ) (s t : S) → Takes writes from (take at bytes) s
      → writes s None t → TakesFront writes from bytes t
  took_front bytes at s t took call = record {
    front = _;
    rest = _;
    whole = sym (take-append-drop at bytes);
    before = s;
    took = took;
    failed = call;
  }

  pub took_then : {s t : S} {first second : List ℕ} → Takes writes from first s → Takes writes s second t
      → Takes writes from (first ++ second) t
  took_then {s} {t} {first} took nothing = rw (append-nil first) took
  took_then {s} {t} {first} took (more {bytes} {front} more_took call) = rw (← append_assoc) (more (took_then took more_took) call)

-- more is written after what was
pub front_then : {S : Type 0} {writes : S → Option (List ℕ) → S → Type 0} {from t : S} {first : List ℕ} (second : List ℕ)
    → TakesFront writes from first t → TakesFront writes from (first ++ second) t
front_then = grind (arith, append_assoc)

pub front_after : {S : Type 0} {writes : S → Option (List ℕ) → S → Type 0} {from s t : S} (first : List ℕ) {second : List ℕ}
    → Takes writes from first s → TakesFront writes s second t → TakesFront writes from (first ++ second) t
front_after = grind (arith, append_assoc, took_then)

module _ {S : Type 0} {writes : S → Option (List ℕ) → S → Type 0} {failures : S → ℕ} {from t : S} where
  -- a call that stops where a write of it failed
  pub wrote_front : {T E : Type 0} (text : List ℕ) (r : Result T E) → IsErr r → TakesFront writes from text t
      → HasFailed (failures from) (failures t) → WritesText writes failures from text r t
  wrote_front = grind arith

  -- a call that ends with a call of another, which writes the second part
  pub wrote_next : {T E : Type 0} {s : S} (first second : List ℕ) (r : Result T E) → Takes writes from first s
      → failures s ≡ failures from → WritesText writes failures s second r t
      → WritesText writes failures from (first ++ second) r t
  wrote_next = grind (arith, took_then, front_after)
