use Rattle.std.proofs.Common.{◌≡◌, ◌∙◌, ◌<◌, ◌≤◌, ℕ, false, List, length, get_or, refl, subst, ap, sym, arith}
use Rattle.std.proofs.lemmas.Bool.Decides.{nat_tests}
use Rattle.std.proofs.lemmas.List.{get_or_default}
use Rattle.std.proofs.lemmas.Option.{slice_get_past}
use Rattle.std.specs.Prelude.{Vec}
use Rattle.std.specs.declared.alloc.Global.{Global}
use Rattle.bpf_shared.specs.declared.shapes.ArrayShape.{ArrayShape}
use Rattle.bpf_shared.specs.Contents.{bytes_of_all}
use Rattle.bpf_shared.specs.Shape.{IsArray, IsArrayShape, IsWithin}
use Rattle.bpf_plain.specs.Private.Contents.{Contents, bytes_of}
use Rattle.bpf_plain.specs.Private.Places.{array_at, offset_at}
use Rattle.bpf_plain.specs.Shows.{ShowsByte, ShowsNoByte}
use Rattle.bpf_plain.proofs.Places.{array_sized}
use Rattle.bpf_plain.proofs.Vectors.{bytes_at, count_all}
use Rattle.bpf_plain.proofs.Peeking.{no_array, no_value, byte_there, offset_inside}
use Rattle.bpf_plain.proofs.plain.PlainStore.peek_fixed.Goals as goal

abbrev none : ArrayShape
none = record { value = 0; max = 0; per_cpu = false; frozen = false }

pub returns-in_err-array-clause-none : goal.returns-in_err-array-clause-none
returns-in_err-array-clause-none c =
    let past : length c.self.inside.shape.arrays ≤ array_at c.args.address = subst
    (λ (gs : List ArrayShape). length gs ≤ array_at c.args.address) c.arrays.ensures.arrays c.in_err-array.ensures.lookup.3 in
    rw c.from_residual.ensures (subst (λ (p : Contents). ShowsNoByte p c.args.address) c.self.view_is
    (no_array (record { shape = c.self.inside.shape; maps = c.self.inside.maps; arrays = bytes_of_all c.self.inside.arrays.items })
    c.self.invariant c.args.address c.requires (λ s so h. c.values_are_low.ensures.shown s so h.maps)
    (slice_get_past c.self.inside.shape.arrays (array_at c.args.address) past)))

pub has-requires-clause-shape : goal.has-requires-clause-shape
has-requires-clause-shape c =
    let n = array_at c.args.address in
    let gs = c.arrays.result.now in
    let l : n < length gs = (let t = c.in_ok-array.ensures.lookup.0 in grind (arith, nat_tests)) in
    let item : c.in_ok-array.array.now ≡ get_or gs n none = c.in_ok-array.ensures.lookup.3.1 none in
    let sized = array_sized c.self.inside.shape c.self.invariant.shape gs c.arrays.ensures.arrays n c.cpus.result none c.cpus.ensures.cpus l in
    subst (IsArrayShape c.cpus.result) (sym item) sized.1

pub index-requires-then-has : goal.index-requires-then-has
index-requires-then-has c =
    let n = array_at c.args.address in
    let gs = c.arrays.result.now in
    let l : n < length gs = (let t = c.in_ok-array.ensures.lookup.0 in grind (arith, nat_tests)) in
    let item : c.in_ok-array.array.now ≡ get_or gs n none = c.in_ok-array.ensures.lookup.3.1 none in
    let sized = array_sized c.self.inside.shape c.self.invariant.shape gs c.arrays.ensures.arrays n c.cpus.result none c.cpus.ensures.cpus l in
    let here : IsArray c.self.inside.shape.arrays n c.in_ok-array.array.now = subst (IsArray c.self.inside.shape.arrays n) (sym item) sized.0 in
    let within : IsWithin c.self.inside.shape.cpus c.in_ok-array.array.now (offset_at c.args.address) 1 = subst
    (λ (k : ℕ). IsWithin k c.in_ok-array.array.now (offset_at c.args.address) 1) c.cpus.ensures.cpus (c.if-has.ensures.0 refl) in
    let inside = offset_inside (record {
      shape = c.self.inside.shape;
      maps = c.self.inside.maps;
      arrays = bytes_of_all
          c.self.inside.arrays.items;
    }) c.self.invariant c.args.address c.requires (λ s so h. c.values_are_low.ensures.shown s so h.maps)
    c.in_ok-array.array.now here within in
    let count = c.self.invariant.arrays.count in
    let all = count_all c.self.inside.arrays.items in
    let same = ap (λ (gs : List ArrayShape). length gs) c.arrays.ensures.arrays in
    let at : bytes_of (record { shape = c.self.inside.shape; maps = c.self.inside.maps; arrays = bytes_of_all c.self.inside.arrays.items })
    n ≡ c.index.result.now.items = bytes_at c.self.inside.arrays.items n c.index.result.now (omega arith) ∙ ap
    (λ (v : Vec ℕ Global). v.items) (sym c.index.ensures) in
    let long = ap (λ (bs : List ℕ). length bs) at in
    let size = c.index.result.now.ok.0 in
    omega arith

pub returns-then-has-clause-found : goal.returns-then-has-clause-found
returns-then-has-clause-found c =
    let n = array_at c.args.address in
    let gs = c.arrays.result.now in
    let l : n < length gs = (let t = c.in_ok-array.ensures.lookup.0 in grind (arith, nat_tests)) in
    let item : c.in_ok-array.array.now ≡ get_or gs n none = c.in_ok-array.ensures.lookup.3.1 none in
    let sized = array_sized c.self.inside.shape c.self.invariant.shape gs c.arrays.ensures.arrays n c.cpus.result none c.cpus.ensures.cpus l in
    let here : IsArray c.self.inside.shape.arrays n c.in_ok-array.array.now = subst (IsArray c.self.inside.shape.arrays n) (sym item) sized.0 in
    let within : IsWithin c.self.inside.shape.cpus c.in_ok-array.array.now (offset_at c.args.address) 1 = subst
    (λ (k : ℕ). IsWithin k c.in_ok-array.array.now (offset_at c.args.address) 1) c.cpus.ensures.cpus (c.if-has.ensures.0 refl) in
    let count = c.self.invariant.arrays.count in
    let all = count_all c.self.inside.arrays.items in
    let same = ap (λ (gs : List ArrayShape). length gs) c.arrays.ensures.arrays in
    let at : bytes_of (record { shape = c.self.inside.shape; maps = c.self.inside.maps; arrays = bytes_of_all c.self.inside.arrays.items })
    n ≡ c.index.result.now.items = bytes_at c.self.inside.arrays.items n c.index.result.now (omega arith) ∙ ap
    (λ (v : Vec ℕ Global). v.items) (sym c.index.ensures) in
    let inside = offset_inside (record {
      shape = c.self.inside.shape;
      maps = c.self.inside.maps;
      arrays = bytes_of_all
          c.self.inside.arrays.items;
    }) c.self.invariant c.args.address c.requires (λ s so h. c.values_are_low.ensures.shown s so h.maps)
    c.in_ok-array.array.now here within in
    let long = ap (λ (bs : List ℕ). length bs) at in
    let o = offset_at c.args.address in
    let byte : c.index-then-has.result.now ≡ get_or (bytes_of (record
    { shape = c.self.inside.shape; maps = c.self.inside.maps; arrays = bytes_of_all c.self.inside.arrays.items }) n) o 0 =
    c.index-then-has.ensures ∙ (get_or_default c.index.result.now.items o c.index-then-has.result.now 0 (omega arith) ∙ ap
    (λ (bs : List ℕ). get_or bs o 0) (sym at))
    in
    subst (λ (p : Contents). ShowsByte p c.args.address c.index-then-has.result.now) c.self.view_is
    (byte_there (record { shape = c.self.inside.shape; maps = c.self.inside.maps; arrays = bytes_of_all c.self.inside.arrays.items })
    c.self.invariant c.args.address c.requires (λ s so h. c.values_are_low.ensures.shown s so h.maps) c.in_ok-array.array.now here
    within c.index-then-has.result.now byte)

pub returns-else-has-clause-none : goal.returns-else-has-clause-none
returns-else-has-clause-none c =
    let n = array_at c.args.address in
    let gs = c.arrays.result.now in
    let l : n < length gs = (let t = c.in_ok-array.ensures.lookup.0 in grind (arith, nat_tests)) in
    let item : c.in_ok-array.array.now ≡ get_or gs n none = c.in_ok-array.ensures.lookup.3.1 none in
    let sized = array_sized c.self.inside.shape c.self.invariant.shape gs c.arrays.ensures.arrays n c.cpus.result none c.cpus.ensures.cpus l in
    let here : IsArray c.self.inside.shape.arrays n c.in_ok-array.array.now = subst (IsArray c.self.inside.shape.arrays n) (sym item) sized.0 in
    subst (λ (p : Contents). ShowsNoByte p c.args.address) c.self.view_is
    (no_value (record { shape = c.self.inside.shape; maps = c.self.inside.maps; arrays = bytes_of_all c.self.inside.arrays.items })
    c.self.invariant c.args.address c.requires (λ s so h. c.values_are_low.ensures.shown s so h.maps) c.in_ok-array.array.now here
    (λ w. absurd (let k = c.if-has.ensures.1 (subst (λ (x : ℕ). IsWithin x c.in_ok-array.array.now (offset_at c.args.address) 1) (sym c.cpus.ensures.cpus) w) in
    cc)))
