-- What a module of the program stands for.
use Rattle.std.specs.Prelude.{string_bytes}
use Rattle.asn_module.specs.declared.module.Module.{Module}
use Rattle.asn_module.specs.Accepted.{ModuleTypes}
use Rattle.asn_module.specs.Known.{types_of}

abbrev pub types_view : Module → ModuleTypes
types_view m = record { name = string_bytes m.name; types = types_of m.types.items }
