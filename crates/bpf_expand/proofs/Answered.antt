-- What a line is answered, put together.
use Rattle.std.proofs.Common.{◌≡◌, ◌∙◌, inl, inr, Bool, true, false, ℕ, List, [], Option, Some, None, Result, Ok, Err, String, Global}
use Rattle.std.proofs.Common.{string_bytes, codes, length, ap, sym, subst}
use Rattle.std.specs.Prelude.{IfNone, IfOk, IfSome, OnErr}
use Rattle.std.specs.declared.alloc.AllocError.{AllocError}
use Rattle.bpf_shared.specs.Shape.{Shape}
use Rattle.bpf_names.specs.Names.{Names}
use Rattle.bpf_cpu.specs.Setup.{named_in}
use Rattle.bpf_machine.specs.Machine.{MachineState}
use Rattle.bpf_races.specs.Lines.{here_lines}
use Rattle.bpf_expand.specs.State.{Host, IsStateOf}
use Rattle.bpf_expand.specs.Lines.{no_state_line}
use Rattle.bpf_expand.specs.Filter.{AreRacesTold, IsLineTold, IsNoStateLine}
use Rattle.bpf_expand.specs.Private.Races.{TellsRaces}

-- ---- races
-- those of the machine of a state are those of the state
pub races_told : (races : Bool) (h : Host) (names : Names) (bytes text : List ℕ) (m : MachineState) → IsStateOf h m bytes → TellsRaces races
    m names text → AreRacesTold races h names bytes text
races_told false h names bytes text m is told = told
races_told true h names bytes text m is (found, are, lines) = (
  found,
  (m, is, are),
  lines ∙ ap
      (λ (s : Shape). here_lines (named_in s) names (length found) found) is.of.shape.0,
)

pub none_told : (races : Bool) (h : Host) (names : Names) (bytes text : List ℕ) → races ≡ false → text ≡ [] → AreRacesTold races h names bytes text
none_told races h names bytes text is none = subst (λ (b : Bool). AreRacesTold b h names bytes text) (sym is) none

pub told_too : (r s : Bool) (h k : Host) (ns ms : Names) (bytes text : List ℕ) → r ≡ s → h ≡ k → ns ≡ ms → AreRacesTold r h ns bytes text →
    AreRacesTold s k ms bytes text
told_too r s h k ns ms bytes text races host names told =
    subst (λ (x : Bool). AreRacesTold x k ms bytes text) races (subst (λ (x : Host). AreRacesTold r x ms bytes text) host
    (subst (λ (x : Names). AreRacesTold r h x bytes text) names told))

-- ---- lines
module _ (races : Bool) (h : Host) (names : Names) (number : ℕ) (line : List ℕ) where
  pub line_told : (told : Option (String Global)) (text : String Global) (refused : Bool)
      → IfSome told (λ t. (n : ℕ) → IsLineTold races h names n line (string_bytes t) false) → IfNone told (IsNoStateLine h line)
      → IfSome told (λ t. (text ≡ t) × (refused ≡ false)) → IfNone told ((string_bytes text ≡ no_state_line number) × (refused ≡ true))
      → IsLineTold races h names number line (string_bytes text) refused
  line_told (Some t) text refused some none (same, taken) isnt =
      subst (λ (b : Bool). IsLineTold races h names number line (string_bytes text) b) (sym taken)
      (subst (λ (t : String Global). IsLineTold races h names number line (string_bytes t) false) (sym same) (some number))
  line_told None text refused some none is (same, so) =
      subst (λ (b : Bool). IsLineTold races h names number line (string_bytes text) b) (sym so) (inl (none, same))

  pub shown_told : (told : Option (String Global)) (answer : Result (String Global × Bool) AllocError)
      → IfSome told (λ t. (n : ℕ) → IsLineTold races h names n line (string_bytes t) false) → IfNone told (IsNoStateLine h line)
      → IfOk answer (λ r. IfSome told (λ t. (r.0 ≡ t) × (r.1 ≡ false))) → IfOk answer
      (λ r. IfNone told ((string_bytes r.0 ≡ no_state_line number) × (r.1 ≡ true)))
      → IfOk answer (λ r. IsLineTold races h names number line (string_bytes r.0) r.1)
  shown_told told (Ok r) some none is isnt = line_told told r.0 r.1 some none is isnt
  shown_told told (Err e) some none is isnt = tt

  pub kept_told : (answer : Result (String Global × Bool) AllocError) (text : List ℕ) (refused : Bool)
      → IfOk answer (λ r. IsLineTold races h names number line (string_bytes r.0) r.1)
      → IfOk answer (λ r. (refused ≡ r.1) × (text ≡ string_bytes r.0)) → OnErr answer ((refused ≡ true) × (text ≡ codes "refused L9\n"))
      → IsLineTold races h names number line text refused
  kept_told (Ok r) text refused told (is, same) lost =
      subst (λ (b : Bool). IsLineTold races h names number line text b) (sym is)
      (subst (λ (t : List ℕ). IsLineTold races h names number line t r.1) (sym same) told)
  kept_told (Err e) text refused told kept (so, same) =
      subst (λ (b : Bool). IsLineTold races h names number line text b) (sym so) (inr same)
