-- A `PlainStore` as made shows the plain store as made.
use Rattle.std.proofs.Common.{ℕ, List, refl, ap, ◌∙◌}
use Rattle.bpf_shared.specs.declared.shapes.ArrayShape.{ArrayShape}
use Rattle.bpf_shared.specs.Shape.{Shape, IsShape, contents_of}
use Rattle.bpf_shared.specs.Store.{Value, array_of, copy_of, index_of}
use Rattle.bpf_shared.proofs.Fixed.{fixed_is}
use Rattle.bpf_hash.specs.HashStore as hash
use Rattle.bpf_plain.specs.Private.Contents.{Contents, bytes_of, AreArrays, AreAsMade, IsArrayOf, IsAsMade, IsStore, IsMade}
use Rattle.bpf_plain.proofs.Filling.{filled_at, value_made}

pub array_made : (h : Shape) (a : ℕ) (g : ArrayShape) {bytes : List ℕ} → IsAsMade h.cpus g (contents_of h a) bytes → IsArrayOf h a g bytes
array_made h a g filled = record { size = filled.size; frozen = λ frozen. filled; padded = λ x l none. filled_at _ _ _ _ filled x l }

module _ (h : Shape) (is : IsShape h) (maps : hash.Contents) (arrays : List (List ℕ)) (made : hash.IsMade h maps) (filled : AreAsMade h arrays) where
  abbrev new : Contents
  new = record { shape = h; maps = maps; arrays = arrays }

  pub made_arrays : AreArrays h arrays
  made_arrays = record {
    count = filled.count;
    each = λ a g there. array_made h a g (filled.each a g there);
  }

  pub new_store : IsStore new
  new_store = record {
    shape = is;
    maps = made.shapes;
    cpus = made.serves;
    arrays = made_arrays;
  }

  pub new_made : IsMade h new
  new_made = record {
    shape = refl;
    serves = made.serves;
    idle = made.idle;
    holds_nothing = made.holds_nothing;
    shows = record {
      shape = refl;
      maps = made.shows;
      fixed = λ v f. ap (λ (x : Value). x.bytes) (fixed_is h v f) ∙ value_made h.cpus (copy_of v) (index_of v) f.array _
          (bytes_of new (array_of v)) f.copy f.index (filled.each (array_of v) f.array f.is);
    };
  }
