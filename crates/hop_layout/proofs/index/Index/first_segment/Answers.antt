use Rattle.std.proofs.Common.{◌≡◌, ℕ, ◌*◌, ◌%◌, ◌^◌, ◌<◌, ◌≤◌, ap, sym, subst, ◌∙◌, arith}
use Rattle.std.proofs.lemmas.Nat.{mod_below}
use Rattle.bpf_shared.specs.Shape.{Shape}
use Rattle.hop_layout.specs.declared.index.Bases.{Bases}
use Rattle.hop_layout.specs.Layout.{first_depth, power, map_shape}
use Rattle.hop_layout.specs.Private.Index.{bases}
use Rattle.hop_layout.proofs.Depths.{first_most, first_room, segments_are, some_power}
use Rattle.hop_layout.proofs.index.Index.first_segment.Goals as goal

deep : (h : Shape) (m : ℕ) (b : Bases) → b ≡ bases h m → b.first ≡ first_depth (map_shape h m)
deep h m b is = ap (λ (x : Bases). x.first) is

few : (h : Shape) (m : ℕ) (b : Bases) → b ≡ bases h m → b.first ≤ 10
few h m b is = let d = deep h m b is in let n = first_most (map_shape h m) in omega arith

-- the code's power of two is the number of segments as made
counts : (h : Shape) (m : ℕ) (b : Bases) → b ≡ bases h m → 1 * 2 ^ b.first % 4294967296 ≡ power (first_depth (map_shape h m))
counts h m b is = segments_are b.first (few h m b is) ∙ ap power (deep h m b is)

pub overflow_shl-result : goal.overflow_shl-result
overflow_shl-result c = let n = few c.args.self.now.shape c.args.map c.bases.result c.bases.ensures.bases in omega arith

pub nonzero_rem-result : goal.nonzero_rem-result
nonzero_rem-result c = subst (λ (n : ℕ). 0 < n) (sym (counts c.args.self.now.shape c.args.map c.bases.result c.bases.ensures.bases))
    (some_power (first_depth (map_shape c.args.self.now.shape c.args.map)))

pub returns-clause-segment : goal.returns-clause-segment
returns-clause-segment c = ap (λ (n : ℕ). c.args.home % n) (counts c.args.self.now.shape c.args.map c.bases.result c.bases.ensures.bases)

pub returns-clause-inside : goal.returns-clause-inside
returns-clause-inside c =
    let g = map_shape c.args.self.now.shape c.args.map in
    let o = some_power (first_depth g) in
    let l = mod_below c.args.home (power (first_depth g)) o in
    let e = counts c.args.self.now.shape c.args.map c.bases.result c.bases.ensures.bases in
    let n = ap (λ (n : ℕ). c.args.home % n) e in
    let r = first_room g in
    omega arith
