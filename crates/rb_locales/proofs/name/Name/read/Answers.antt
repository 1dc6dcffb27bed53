use Rattle.std.proofs.Common.{◌++◌, take, drop, arith}
use Rattle.std.proofs.lemmas.List.{length-take-le}
use Rattle.rb_locales.proofs.Canonical.{own_name}
use Rattle.rb_locales.proofs.Fields.{read_fields}
use Rattle.rb_locales.proofs.name.Name.read.Goals as goal

pub invariant_of-result : goal.invariant_of-result
invariant_of-result c =
    read_fields c.args.bytes.now c.put_front.new.field c.write_parts.new.rest c.name_end-end.result c.name_end-end.ensures.within (omega arith)
    c.if-end-gt-NAME_LIMIT.false c.put_front.ensures c.if-not-write_parts.ensures

pub returns-clause-canonical : goal.returns-clause-canonical
returns-clause-canonical c =
    let end = c.name_end-end.result in
    let fields =
    read_fields c.args.bytes.now c.put_front.new.field c.write_parts.new.rest end c.name_end-end.ensures.within (omega arith) c.if-end-gt-NAME_LIMIT.false
    c.put_front.ensures c.if-not-write_parts.ensures in
    own_name (take end (c.write_parts.new.rest ++ drop end c.put_front.new.field)) fields.canonical
    (omega (arith, length-take-le end (c.write_parts.new.rest ++ drop end c.put_front.new.field) (omega (arith, fields.short.fits, fields.short.all))))
