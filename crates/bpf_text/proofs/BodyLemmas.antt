-- What follows a label, by what is read.
use Rattle.std.proofs.Common.{◌≡◌, ◌≢◌, List, [], Option, Some, None, Ok, Err, sym, ◌∙◌, subst}
use Rattle.std.specs.Prelude.{IfSome, IsSomeAnd}
use Rattle.bpf_insn.specs.Encoding.{Fits}
use Rattle.bpf_text.specs.declared.reading.LineError.{LineError}
use Rattle.bpf_text.specs.declared.reading.LineError.TheVariants.{BadLine, BadNumber, UnknownName}
use Rattle.bpf_text.specs.declared.reading.Draft.{Draft as DraftValue}
use Rattle.bpf_spelling.specs.Token.{Tok}
use Rattle.bpf_text.specs.Line.{Written, IsSpelled}
use Rattle.bpf_text.specs.Private.Lines.{line_at}
use Rattle.bpf_text.specs.Private.Judging.{Judged, drafted}
use Rattle.bpf_text.specs.Assembly.{IsBody}
use Rattle.bpf_text.proofs.Sound.{line_sound}
use Rattle.bpf_text.proofs.Complete.{line_complete}

spelled : (ts : List Tok) (o : Option Written) (i : Written) → o ≡ Some i → IfSome o (λ j. IsSpelled j ts) → IsSpelled i ts
spelled ts (Some j) i e h = let same : j ≡ i = cc in let P : Written → Type 0 = λ x. IsSpelled x ts in subst P same h
spelled ts None i e h = cc

unfit : (ts : List Tok) (o : Option Written) → IsSomeAnd o (λ i. Fits i.insn → ⊥) → IfSome o (λ j. IsSpelled j ts) → (i : Written) ×
    IsSpelled i ts × (Fits i.insn → ⊥)
unfit ts (Some i) h s = (i, s, h)
unfit ts None h s = absurd h

pub body_code : (ts : List Tok) (d : DraftValue) → Judged (Ok d) (line_at ts) → IsBody (Ok (Some (drafted d))) ts
body_code ts d h = (spelled ts (line_at ts) (drafted d) h.0 (line_sound ts), h.1)

pub body_refused : (ts : List Tok) (e : LineError) → ts ≢ [] → Judged (Err e) (line_at ts) → IsBody (Err e) ts
body_refused ts BadLine some h = (some, λ i s. let both : Some i ≡ None = sym (line_complete i.insn i.name ts s) ∙ h in cc)
body_refused ts BadNumber some h = unfit ts (line_at ts) h (line_sound ts)
body_refused ts UnknownName some h = absurd h
