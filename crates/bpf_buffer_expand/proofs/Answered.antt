-- What a line is answered, put together.
use Rattle.std.proofs.Common.{◌≡◌, ◌∙◌, inl, inr, Bool, true, false, ℕ, List, [], Option, Some, None, Result, Ok, Err, String, Global}
use Rattle.std.proofs.Common.{string_bytes, codes, sym, subst}
use Rattle.std.specs.Prelude.{◌≢◌, IfNone, IfOk, IfSome, OnErr}
use Rattle.hex.specs.Hex.{decode_of}
use Rattle.bpf_buffer_expand.specs.State.{IsNoState}
use Rattle.std.specs.declared.alloc.AllocError.{AllocError}
use Rattle.bpf_names.specs.Names.{Names}
use Rattle.bpf_expand.specs.State.{Host}
use Rattle.bpf_expand.specs.Lines.{no_state_line}
use Rattle.bpf_buffer_expand.specs.Filter.{IsLineTold, IsNoStateLine}

module _ (h : Host) (names : Names) (number : ℕ) (line : List ℕ) where
  line_told : (told : Option (String Global)) (text : String Global) (refused : Bool)
      → IfSome told (λ t. (n : ℕ) → IsLineTold h names n line (string_bytes t) false) → IfNone told (IsNoStateLine h line)
      → IfSome told (λ t. (text ≡ t) × (refused ≡ false)) → IfNone told ((string_bytes text ≡ no_state_line number) × (refused ≡ true))
      → IsLineTold h names number line (string_bytes text) refused
  line_told (Some t) text refused some none (same, taken) isnt =
      subst (λ (b : Bool). IsLineTold h names number line (string_bytes text) b) (sym taken)
      (subst (λ (t : String Global). IsLineTold h names number line (string_bytes t) false) (sym same) (some number))
  line_told None text refused some none is (same, so) =
      subst (λ (b : Bool). IsLineTold h names number line (string_bytes text) b) (sym so) (inl (none, same))

  pub shown_told : (told : Option (String Global)) (answer : Result (String Global × Bool) AllocError)
      → IfSome told (λ t. (n : ℕ) → IsLineTold h names n line (string_bytes t) false) → IfNone told (IsNoStateLine h line)
      → IfOk answer (λ r. IfSome told (λ t. (r.0 ≡ t) × (r.1 ≡ false))) → IfOk answer
      (λ r. IfNone told ((string_bytes r.0 ≡ no_state_line number) × (r.1 ≡ true)))
      → IfOk answer (λ r. IsLineTold h names number line (string_bytes r.0) r.1)
  shown_told told (Ok r) some none is isnt = line_told told r.0 r.1 some none is isnt
  shown_told told (Err e) some none is isnt = tt

  pub kept_told : (answer : Result (String Global × Bool) AllocError) (text : List ℕ) (refused : Bool)
      → IfOk answer (λ r. IsLineTold h names number line (string_bytes r.0) r.1)
      → IfOk answer (λ r. (refused ≡ r.1) × (text ≡ string_bytes r.0)) → OnErr answer ((refused ≡ true) × (text ≡ codes "refused L9\n"))
      → IsLineTold h names number line text refused
  kept_told (Ok r) text refused told (is, same) lost =
      subst (λ (b : Bool). IsLineTold h names number line text b) (sym is)
      (subst (λ (t : List ℕ). IsLineTold h names number line t r.1) (sym same) told)
  kept_told (Err e) text refused told kept (so, same) =
      subst (λ (b : Bool). IsLineTold h names number line text b) (sym so) (inr same)

-- the bytes of a line are no state, and so is the line none
pub no_line : {X : Type 0} (h : Host) (line bytes read : List ℕ) → line ≢ [] → decode_of line ≡ Ok bytes → read ≡ bytes → (o : Option X)
    → IfNone o (IsNoState h read) → IfNone o (IsNoStateLine h line)
no_line h line bytes read some is same (Some x) none = tt
no_line h line bytes read some is same None none = (
  some,
  λ others told. (
      let two : Ok bytes ≡ Ok others = sym is ∙ told in
      let one : bytes ≡ others = cc in
      subst (IsNoState h) (same ∙ one) none),
)
