use Rattle.bpf_shared.specs.Contents.{bytes_of_all}
use Rattle.std.proofs.lemmas.Option.{IfSome_then}
use Rattle.bpf_plain.proofs.Places.{if_none}
use Rattle.bpf_plain.proofs.Peeking.{low_byte, low_none}
use Rattle.bpf_plain.proofs.plain.PlainStore.peek.Goals as goal

pub returns-then-address-lt-FIRST_FIXED-clause-found : goal.returns-then-address-lt-FIRST_FIXED-clause-found
returns-then-address-lt-FIRST_FIXED-clause-found c = IfSome_then c.peek.result c.peek.ensures.found
    (low_byte (record { shape = c.self.inside.shape; maps = c.self.inside.maps; arrays = bytes_of_all c.self.inside.arrays.items })
    c.args.self.now c.self.view_is c.args.address c.if-address-lt-FIRST_FIXED.true)

pub returns-then-address-lt-FIRST_FIXED-clause-none : goal.returns-then-address-lt-FIRST_FIXED-clause-none
returns-then-address-lt-FIRST_FIXED-clause-none c = if_none c.peek.result c.peek.ensures.none
    (low_none (record { shape = c.self.inside.shape; maps = c.self.inside.maps; arrays = bytes_of_all c.self.inside.arrays.items })
    c.args.self.now c.self.view_is c.args.address c.if-address-lt-FIRST_FIXED.true)
