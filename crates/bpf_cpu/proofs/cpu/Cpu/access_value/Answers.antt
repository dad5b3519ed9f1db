use Rattle.std.proofs.Common.{rules, ◌≡◌, ℕ, refl, sym, subst}
use Rattle.std.specs.Int.{w64, cast_unsigned}
use Rattle.bpf_insn.specs.declared.instruction.Insn.{Insn}
use Rattle.bpf_insn.specs.declared.instruction.Insn.TheVariants as insn
use Rattle.bpf_insn.specs.declared.operation.sizes.Size.{Size}
use Rattle.bpf_insn.specs.declared.operation.extensions.SignExtension.{SignExtension}
use Rattle.bpf_alu.specs.Arithmetic.{sign_extended}
use Rattle.bpf_mem.specs.Bytes.{size_of}
use Rattle.bpf_shared.specs.Shape.{Shape}
use Rattle.bpf_cpu.specs.declared.outcome.Next.TheVariants as next
use Rattle.bpf_cpu.specs.State.{value, effective_address}
use Rattle.bpf_cpu.specs.Row.{Quiet, plain_size, extension_of}
use Rattle.bpf_cpu.specs.Values.{LoadsValue, StoresValue, ChangesValue}
use Rattle.bpf_cpu.specs.Step.{Executes}
use Rattle.bpf_cpu.specs.Private.Execute.{progress_of}
use Rattle.bpf_cpu.proofs.ValueLaws.{missed_load, missed_store, missed_atomic, load_missed, store_missed, change_missed, accessed}
use Rattle.bpf_cpu.proofs.cpu.Cpu.access_value.Goals as goal

pub returns-in-StoreImmediate-clause-access : goal.returns-in-StoreImmediate-clause-access
returns-in-StoreImmediate-clause-access g c =
    let w = c.in-StoreImmediate in
    let cpu = c.args.self.now in
    let h : Shape = g.S.Shared.shapes c.args.shared.now in
    let i = insn.StoreImmediate w.size w.base w.offset w.value in
    let a = effective_address cpu w.base w.offset in
    let x = cast_unsigned w64 w.value in
    let made = c.store_value.ensures.store in
    let new = c.store_value.new.self in
    let progress = progress_of c.store_value.result new in
    let P : ℕ → ℕ → Type 0 = λ b y. StoresValue h w.size b y cpu made.0 progress new in
    let number : c.widened.result ≡ x = search rules in
    let at : c.address-in-StoreImmediate.result ≡ a = search rules in
    let here : P a x = subst (λ (y : ℕ). P a y) number (subst (λ (b : ℕ). P b c.widened.result) at made.2) in
    let missed : Quiet i cpu (progress_of next.BadAddress cpu) cpu = subst (λ (j : Insn). Quiet j cpu (progress_of next.BadAddress cpu) cpu)
    w.is c.requires.missed in (
      made.0,
      made.1,
      subst (λ (j : Insn). Executes h j cpu made.0 progress new) (sym w.is)
          (accessed h i cpu new made.0 progress a w.size refl (missed_store w.size a x cpu missed) missed here
          (λ out below. store_missed h cpu new made.0 progress w.size a out below x here)),
    )

pub returns-in-Atomic-clause-access : goal.returns-in-Atomic-clause-access
returns-in-Atomic-clause-access g c =
    let w = c.in-Atomic in
    let cpu = c.args.self.now in
    let h : Shape = g.S.Shared.shapes c.args.shared.now in
    let i = insn.Atomic w.width w.op w.base w.offset w.src in
    let a = effective_address cpu w.base w.offset in
    let z = size_of w.width in
    let made = c.change_value.ensures.change in
    let new = c.change_value.new.self in
    let progress = progress_of c.change_value.result new in
    let P : ℕ → Type 0 = λ b. ChangesValue h w.width w.op w.src b cpu made.0 progress new in
    let at : c.address-in-Atomic.result ≡ a = search rules in
    let here : P a = subst P at made.2 in
    let missed : Quiet i cpu (progress_of next.BadAddress cpu) cpu = subst (λ (j : Insn). Quiet j cpu (progress_of next.BadAddress cpu) cpu)
    w.is c.requires.missed in (
      made.0,
      made.1,
      subst (λ (j : Insn). Executes h j cpu made.0 progress new) (sym w.is)
          (accessed h i cpu new made.0 progress a z refl (missed_atomic w.width w.op w.src a cpu missed) missed here
          (λ out below. change_missed h cpu new made.0 progress w.width w.op w.src a out below here)),
    )

pub returns-in-Load-clause-access : goal.returns-in-Load-clause-access
returns-in-Load-clause-access g c =
    let w = c.in-Load in
    let cpu = c.args.self.now in
    let h : Shape = g.S.Shared.shapes c.args.shared.now in
    let i = insn.Load w.size w.dst w.base w.offset in
    let a = effective_address cpu w.base w.offset in
    let z : Size = w.size in
    let made = c.load_value.ensures.load in
    let new = c.load_value.new.self in
    let progress = progress_of c.load_value.result new in
    let reading : ℕ → ℕ = λ x. x in
    let at : c.address.result ≡ a = search rules in
    let here : LoadsValue h z reading w.dst a cpu made.0 progress new = subst (λ (b : ℕ). LoadsValue h z reading w.dst b cpu made.0 progress new) at made.2 in
    let missed : Quiet i cpu (progress_of next.BadAddress cpu) cpu = subst (λ (j : Insn). Quiet j cpu (progress_of next.BadAddress cpu) cpu)
    w.is c.requires.missed in (
      made.0,
      made.1,
      subst (λ (j : Insn). Executes h j cpu made.0 progress new) (sym w.is)
          (accessed h i cpu new made.0 progress a z refl (missed_load z reading w.dst a cpu missed) missed here
          (λ out below. load_missed h cpu new made.0 progress z a out below reading w.dst here)),
    )

pub returns-in-LoadSigned-clause-access : goal.returns-in-LoadSigned-clause-access
returns-in-LoadSigned-clause-access g c =
    let w = c.in-LoadSigned in
    let cpu = c.args.self.now in
    let h : Shape = g.S.Shared.shapes c.args.shared.now in
    let i = insn.LoadSigned w.size w.dst w.base w.offset in
    let a = effective_address cpu w.base w.offset in
    let z : Size = plain_size w.size in
    let made = c.load_value-in-LoadSigned.ensures.load in
    let new = c.load_value-in-LoadSigned.new.self in
    let progress = progress_of c.load_value-in-LoadSigned.result new in
    let reading : ℕ → ℕ = sign_extended (extension_of w.size) in
    let at : c.address-in-LoadSigned.result ≡ a = search rules in
    let size : c.plain_size-size.result ≡ z = search rules in
    let bits : c.extension_of.result ≡ extension_of w.size = search rules in
    let P : Size → SignExtension → ℕ → Type 0 = λ y e b. LoadsValue h y (sign_extended e) w.dst b cpu made.0 progress new in
    let here : P z (extension_of w.size) a = subst (λ (y : Size). P y (extension_of w.size) a) size
    (subst (λ (e : SignExtension). P c.plain_size-size.result e a) bits
    (subst (λ (b : ℕ). P c.plain_size-size.result c.extension_of.result b) at made.2)) in
    let missed : Quiet i cpu (progress_of next.BadAddress cpu) cpu = subst (λ (j : Insn). Quiet j cpu (progress_of next.BadAddress cpu) cpu)
    w.is c.requires.missed in (
      made.0,
      made.1,
      subst (λ (j : Insn). Executes h j cpu made.0 progress new) (sym w.is)
          (accessed h i cpu new made.0 progress a z refl (missed_load z reading w.dst a cpu missed) missed here
          (λ out below. load_missed h cpu new made.0 progress z a out below reading w.dst here)),
    )

pub returns-in-Store-clause-access : goal.returns-in-Store-clause-access
returns-in-Store-clause-access g c =
    let w = c.in-Store in
    let cpu = c.args.self.now in
    let h : Shape = g.S.Shared.shapes c.args.shared.now in
    let i = insn.Store w.size w.base w.offset w.src in
    let a = effective_address cpu w.base w.offset in
    let x = value cpu w.src in
    let made = c.store_value-in-Store.ensures.store in
    let new = c.store_value-in-Store.new.self in
    let progress = progress_of c.store_value-in-Store.result new in
    let P : ℕ → ℕ → Type 0 = λ b y. StoresValue h w.size b y cpu made.0 progress new in
    let number : c.value.result ≡ x = search rules in
    let at : c.address-in-Store.result ≡ a = search rules in
    let here : P a x = subst (λ (y : ℕ). P a y) number (subst (λ (b : ℕ). P b c.value.result) at made.2) in
    let missed : Quiet i cpu (progress_of next.BadAddress cpu) cpu = subst (λ (j : Insn). Quiet j cpu (progress_of next.BadAddress cpu) cpu)
    w.is c.requires.missed in (
      made.0,
      made.1,
      subst (λ (j : Insn). Executes h j cpu made.0 progress new) (sym w.is)
          (accessed h i cpu new made.0 progress a w.size refl (missed_store w.size a x cpu missed) missed here
          (λ out below. store_missed h cpu new made.0 progress w.size a out below x here)),
    )
