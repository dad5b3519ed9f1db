use Rattle.std.proofs.Common.{◌≡◌, ℕ, ◌%◌, [], ◌∷◌, take, inl, inr, refl, sym, ap, subst, ◌∙◌, arith}
use Rattle.std.proofs.lemmas.List.{take_all}
use Rattle.bpf_base.specs.Bytes.{little_endian}
use Rattle.bpf_mem.specs.Memory.{bytes_at}
use Rattle.bpf_mem.specs.Place.{address_of}
use Rattle.bpf_mem.proofs.ReachLemmas.{length-bytes_at}
use Rattle.bpf_shared.specs.declared.events.Event.TheVariants.{Load}
use Rattle.bpf_shared.specs.declared.events.Size.TheVariants.{Word}
use Rattle.bpf_shared.proofs.Chains.{chain_nothing, chain_one}
use Rattle.bpf_helpers.specs.declared.reading.Source.{Source}
use Rattle.bpf_helpers.specs.declared.reading.Source.TheVariants.{Private, Shared}
use Rattle.bpf_helpers.specs.Private.Source.{IsOdd, IsSource}
use Rattle.bpf_helpers.proofs.ArrayPlaces.{readable_word, settled}
use Rattle.bpf_helpers.proofs.reading.read_index.Goals as goal

pub load_word-requires : goal.load_word-requires
load_word-requires g c =
    let size = length-bytes_at c.args.memory.now (address_of c.in-Private.place) 4 c.bytes.result.now c.bytes.ensures in
    omega arith

pub value_load-requires-clause-place : goal.value_load-requires-clause-place
value_load-requires-clause-place g c =
    let P : Source → Type 0 = λ s. IsSource (g.S.Shared.shapes c.args.shared.now) c.args.memory.now c.args.held.now c.args.at 4 s in
    let Q : Source → Type 0 = λ s. IsOdd s c.args.at → ⊥ in
    let source : IsSource (g.S.Shared.shapes c.args.shared.now) c.args.memory.now c.args.held.now c.args.at 4 Shared = subst P
    c.in-Shared.is c.requires.source in
    let even : IsOdd Shared c.args.at → ⊥ = subst Q c.in-Shared.is c.requires.even in
    readable_word (g.S.Shared.shapes c.args.shared.now) (g.S.Shared.held c.args.shared.now c.args.cpu) c.args.held.now c.args.at
    c.requires.held c.are_aligned.ensures source.1 (settled (c.args.at % 4) 0 even)

pub returns-in-Private-clause-read : goal.returns-in-Private-clause-read
returns-in-Private-clause-read g c =
    let P : Source → Type 0 = λ s. IsSource (g.S.Shared.shapes c.args.shared.now) c.args.memory.now c.args.held.now c.args.at 4 s in
    let source : IsSource (g.S.Shared.shapes c.args.shared.now) c.args.memory.now c.args.held.now c.args.at 4 (Private c.in-Private.place) =
    subst P c.in-Private.is c.requires.source in
    let bytes = c.bytes.result.now in
    let size = length-bytes_at c.args.memory.now (address_of c.in-Private.place) 4 bytes c.bytes.ensures in
    let whole : take 4 bytes ≡ bytes = take_all 4 bytes (omega arith) in
    let number : c.from.result ≡ little_endian bytes = c.from.ensures ∙ (c.load_word.ensures ∙ ap little_endian whole) in (
      [],
      inl (bytes, ap (λ (a : ℕ). bytes_at c.args.memory.now a 4) (sym source.0) ∙ c.bytes.ensures, number, refl),
      chain_nothing g.S.Shared.passes g.S.Shared.serves c.args.cpu g.met.S.Shared.nothing c.args.shared.now,
    )

pub returns-in-Shared-clause-read : goal.returns-in-Shared-clause-read
returns-in-Shared-clause-read g c =
    let P : Source → Type 0 = λ s. IsSource (g.S.Shared.shapes c.args.shared.now) c.args.memory.now c.args.held.now c.args.at 4 s in
    let Q : Source → Type 0 = λ s. IsOdd s c.args.at → ⊥ in
    let source : IsSource (g.S.Shared.shapes c.args.shared.now) c.args.memory.now c.args.held.now c.args.at 4 Shared = subst P
    c.in-Shared.is c.requires.source in
    let even : IsOdd Shared c.args.at → ⊥ = subst Q c.in-Shared.is c.requires.even in
    let event = Load c.args.at Word c.value_load.result in (
      event ∷ [],
      inr (source.0, source.1, settled (c.args.at % 4) 0 even, refl),
      chain_one g.S.Shared.passes g.S.Shared.serves c.args.cpu c.args.shared.now c.value_load.new.self event c.requires.serves
          c.value_load.ensures.loaded c.value_load.ensures.same.1,
    )
