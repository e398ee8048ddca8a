-- The kinds of records as the code has them, by the definitions of the rules.
use Rattle.rules.specs.Stream.{Due, header, bgnlib, libname, units, bgnstr, strname, boundary, layer, datatype, xy, propattr, propvalue, endel, endstr, endlib}
use Rattle.gds_records.specs.declared.kinds.Form.{Form}
use Rattle.gds_records.specs.declared.kinds.Kind.{Kind}

abbrev pub due_of : Kind → Due
due_of Kind.Header = header
due_of Kind.Bgnlib = bgnlib
due_of Kind.Libname = libname
due_of Kind.Units = units
due_of Kind.Bgnstr = bgnstr
due_of Kind.Strname = strname
due_of Kind.Boundary = boundary
due_of Kind.Layer = layer
due_of Kind.Datatype = datatype
due_of Kind.Xy = xy
due_of Kind.Propattr = propattr
due_of Kind.Propvalue = propvalue
due_of Kind.Endel = endel
due_of Kind.Endstr = endstr
due_of Kind.Endlib = endlib

-- what the first four bytes and the length of a record are to be
abbrev pub form_of : Due → Form
form_of due = record { record_type = due.record_type; data_type = due.data_type; least = due.least; greatest = due.greatest }
