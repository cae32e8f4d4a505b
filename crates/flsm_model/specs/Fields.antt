-- What a shape in the code stands for.
use Rattle.flsm_model.specs.declared.shape.Shape as code
use Rattle.flsm_model.specs.Shape.{Shape}

-- its fields, as the definitions read them of a record
abbrev pub fields_of : code.Shape → Shape
fields_of s =
    record {
      session = s.session;
      to = s.to;
      log = s.log;
      used = s.used;
      chosen = s.chosen;
      guards = s.guards;
      live = s.live;
    }
