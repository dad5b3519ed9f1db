use Rattle.std.proofs.Common.{ℕ, length, inl, inr, refl, sym, ap, subst, ◌∙◌, arith}
use Rattle.bpf_mem.specs.Memory.{bytes_at}
use Rattle.bpf_mem.specs.Place.{address_of}
use Rattle.bpf_mem.proofs.ReachLemmas.{length-bytes_at}
use Rattle.bpf_helpers.specs.Arrays.{copies, parts_of}
use Rattle.bpf_helpers.specs.Reads.{loads, no_loads}
use Rattle.bpf_helpers.specs.declared.reading.Source.{Source}
use Rattle.bpf_helpers.specs.declared.reading.Source.TheVariants.{Private, Shared}
use Rattle.bpf_helpers.specs.Private.Source.{IsSource}
use Rattle.bpf_helpers.specs.Private.Target.{IsTarget}
use Rattle.bpf_helpers.proofs.indexed.copy_value.Goals as goal

pub copy_own-requires-clause-target : goal.copy_own-requires-clause-target
copy_own-requires-clause-target g c =
    let size = length-bytes_at c.args.memory.now (address_of c.in-Private.place) c.args.count c.bytes.result.now c.bytes.ensures in
    subst (λ (n : ℕ). IsTarget (g.S.Shared.shapes c.args.shared.now) c.args.to n) (sym size) c.requires.target

pub copy_own-requires-clause-few : goal.copy_own-requires-clause-few
copy_own-requires-clause-few g c =
    let size = length-bytes_at c.args.memory.now (address_of c.in-Private.place) c.args.count c.bytes.result.now c.bytes.ensures in
    let few = c.requires.few in
    omega arith

pub returns-in-Private-clause-copied : goal.returns-in-Private-clause-copied
returns-in-Private-clause-copied g c =
    let bytes = c.bytes.result.now in
    let P : Source → Type 0 = λ s. IsSource (g.S.Shared.shapes c.args.shared.now) c.args.memory.now c.args.held.now c.args.from c.args.count s in
    let source : IsSource (g.S.Shared.shapes c.args.shared.now) c.args.memory.now c.args.held.now c.args.from c.args.count
    (Private c.in-Private.place) = subst P c.in-Private.is c.requires.source in
    let size = length-bytes_at c.args.memory.now (address_of c.in-Private.place) c.args.count bytes c.bytes.ensures in (
      copies no_loads c.args.from c.args.to (parts_of (length bytes)) bytes,
      c.copy_own.ensures.copied c.args.from,
      inl (
        bytes,
        ap (λ (a : ℕ). bytes_at c.args.memory.now a c.args.count) (sym source.0) ∙ c.bytes.ensures,
        ap
            (λ (n : ℕ). copies no_loads c.args.from c.args.to (parts_of n) bytes) size,
      ),
    )

pub returns-in-Shared-clause-copied : goal.returns-in-Shared-clause-copied
returns-in-Shared-clause-copied g c =
    let P : Source → Type 0 = λ s. IsSource (g.S.Shared.shapes c.args.shared.now) c.args.memory.now c.args.held.now c.args.from c.args.count s in
    let source : IsSource (g.S.Shared.shapes c.args.shared.now) c.args.memory.now c.args.held.now c.args.from c.args.count Shared = subst P
    c.in-Shared.is c.requires.source in
    let e = c.copy_shared.ensures.copied in (
      copies loads c.args.from c.args.to (parts_of c.args.count) e.0,
      e.2,
      inr (e.0, source.0, e.1, refl),
    )
