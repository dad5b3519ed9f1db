use Rattle.std.proofs.Common.{◌∙◌}
use Rattle.bpf_hash.proofs.Making.{is_made}
use Rattle.bpf_hash.proofs.store.HashStore.new.Goals as goal

pub returns : goal.returns
returns c =
    is_made (record { runs = c.in_ok-new_runs.field-0.items; tables = c.in_ok-new_tables.field-0.items }) c.in_ok-new_runs.ensures.idle
    c.in_ok-new_tables.ensures.blank c.args.shape.now
    (c.in_ok-new_runs.ensures.cpus ∙ c.cpus.ensures.cpus)
    (c.in_ok-new_tables.ensures.shapes ∙ c.maps.ensures.maps)
