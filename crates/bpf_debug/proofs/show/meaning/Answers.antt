use Rattle.std.proofs.Common.{◌≡◌, ℕ, List, Option, ap, sym, subst, ◌∙◌, String, Global}
use Rattle.std.specs.Prelude.{IfOk, string_bytes}
use Rattle.std.proofs.lemmas.Result.{IfOk-weaker}
use Rattle.bpf_shared.specs.declared.events.Span.{Span}
use Rattle.bpf_shared.specs.Shape.{Shape}
use Rattle.bpf_plain.specs.PlainStore.{shape_of}
use Rattle.bpf_names.specs.Names.{names_of}
use Rattle.bpf_debug.specs.Show.{IsWordsIn, other_words}
use Rattle.bpf_debug.specs.Private.Naming.{ShowsMeaning, ShowsWords}
use Rattle.bpf_debug.proofs.show.meaning.Goals as goal

pub returns-in-Some : goal.returns-in-Some
returns-in-Some c =
    let names = names_of c.args.names.now in
    let P : Option Span → Type 0 = λ found. IfOk c.value_words.result (λ text. ShowsWords names c.args.store.now c.args.number found (string_bytes text)) in
    subst P (sym c.in-Some.is ∙ c.value_at.ensures) c.value_words.ensures

pub returns-in-None : goal.returns-in-None
returns-in-None c =
    let names = names_of c.args.names.now in
    let number = c.args.number in
    let h = shape_of c.args.store.now in
    IfOk-weaker c.other_words.result (λ (t : String Global). string_bytes t ≡ other_words names h number)
    (λ (t : String Global). ShowsMeaning names c.args.store.now c.args.held.now number (string_bytes t))
    (λ text e s so stands. subst (λ (found : Option Span). IsWordsIn names s number found (string_bytes text)) (sym c.in-None.is ∙ c.value_at.ensures)
    (e ∙ ap (λ (k : Shape). other_words names k number) (sym stands.shape))) c.other_words.ensures
