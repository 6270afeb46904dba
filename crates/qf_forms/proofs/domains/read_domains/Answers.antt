use Rattle.std.proofs.Common.{◌-◌, drop, take, map, length}
use Rattle.csv.specs.Records.{fields_of}
use Rattle.qf_forms.proofs.Named.{known-read, once-read, none-distinct}
use Rattle.qf_forms.proofs.domains.read_domains.Goals as goal

pub returns-in_default-clause-once : goal.returns-in_default-clause-once
returns-in_default-clause-once c = rw c.new.ensures none-distinct

pub returns-in-Some-clause-known : goal.returns-in-Some-clause-known
returns-in-Some-clause-known c = known-read c.rows.result c.args.params (map fields_of (take (length c.as_slice.result.now - 1) (drop 1 c.as_slice.result.now))) c.rows.ensures

pub returns-in-Some-clause-once : goal.returns-in-Some-clause-once
returns-in-Some-clause-once c = once-read c.rows.result c.args.params (map fields_of (take (length c.as_slice.result.now - 1) (drop 1 c.as_slice.result.now))) c.rows.ensures
