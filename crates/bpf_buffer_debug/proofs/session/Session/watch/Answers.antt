use Rattle.std.proofs.Common.{◌≡◌, ◌∙◌, ℕ, List, [], Some, map, refl, sym, ap, subst, String, Global}
use Rattle.std.specs.Prelude.{option_map, slice_index_or, string_bytes}
use Rattle.std.proofs.lemmas.Option.{get_or_from_slice_get}
use Rattle.bpf_names.specs.Names.{Names, names_of}
use Rattle.bpf_plain.specs.PlainStore.{Contents, shape_of}
use Rattle.bpf_buffering.specs.Search.{BufferedState}
use Rattle.bpf_debug.specs.Answer.{watch_line}
use Rattle.bpf_debug.specs.Command.{Watch}
use Rattle.bpf_debug.specs.Read.{IsNamed}
use Rattle.bpf_debug.specs.Watch.{chosen, chosen_in, watched}
use Rattle.bpf_buffer_debug.specs.Private.Kept.{first_of}
use Rattle.bpf_buffer_debug.specs.Command.{Plain}
use Rattle.bpf_buffer_debug.specs.Session.{SessionState, Leaves}
use Rattle.bpf_buffer_debug.proofs.SessionLaws.{watched_key}
use Rattle.bpf_buffer_debug.proofs.session.Session.watch.Goals as goal

pub returns-clause-answered : goal.returns-clause-answered
returns-clause-answered c =
    let m = c.self.inside in
    let names : Names = names_of m.names in
    let store = m.album.machine.machine.store in
    let name = c.args.name.now in
    let word = c.args.word.now in
    let number = c.in-Some.number in
    let choice = c.in-Some-2.choice in
    let key = string_bytes choice.key in
    let last = string_bytes c.in_ok-text.text in
    let s : SessionState = record {
      machine = m.album.machine;
      first = first_of m.album;
      names = names_of m.names;
      breaks = m.breakpoints.items;
      watch = option_map watched m.watch;
      course = m.course;
      lost = m.lost;
    } in
    let t : SessionState = record s { watch = Some (watched choice.watch) } in
    let N : List (String Global) → Type 0 = λ ns. IsNamed (map (λ n. string_bytes n) ns) name number in
    let named : IsNamed names.maps name number = subst N c.deref.ensures.value c.in-Some.ensures.named in
    let called : c.name_at.result.now ≡ name = c.name_at.ensures ∙ ap
    (λ (ns : List (String Global)). slice_index_or (map (λ n. string_bytes n) ns) number []) c.deref-2.ensures.value ∙
    get_or_from_slice_get names.maps number name [] named.0 in
    let put : last ≡ watch_line name key = c.in_ok-text.ensures ∙ ap (λ (n : List ℕ). watch_line n c.as_str.result.now) called ∙ ap
    (λ (k : List ℕ). watch_line name k) c.as_str.ensures.value in
    let stored : c.store.result.now ≡ store = c.store.ensures ∙ ap (λ (b : BufferedState). b.machine.store) c.machine.ensures in
    let C : Contents → Type 0 = λ p. option_map chosen c.in_ok-choice.field-0 ≡ chosen_in (shape_of p) number word in
    let said : option_map chosen c.in_ok-choice.field-0 ≡ chosen_in (shape_of store) number word = subst C stored c.in_ok-choice.ensures in
    let chose : chosen_in (shape_of store) number word ≡ Some (watched choice.watch, key) = sym said ∙ ap (option_map chosen) c.in-Some-2.is in
    subst (λ (r : SessionState). Leaves r (Plain (Watch name word)) last t) c.self.view_is
    (watched_key s t refl refl refl refl refl refl name word key number (watched choice.watch) last named chose refl put)
