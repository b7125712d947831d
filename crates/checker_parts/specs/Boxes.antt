-- What a box does, from what the value inside does.
use Rattle.std.specs.Prelude.{◌≡◌}
use Rattle.std.specs.declared.dyn_box.DynBox.{DynBox}

-- a relation of a box's old value, what is delivered to it, and its new value, from that of the value inside:
-- the box is the same one, with the same implementation behind it, and only the value inside is another
pub record InBox {V A E : Type 0} {F : V → Type 0} (old : DynBox V A F) (R : F old.vtable → E →
    F old.vtable → Type 0) (e : E) (new : DynBox V A F) : Type 0 where
  pub value : F old.vtable
  pub same_box : new ≡ record old { value = value }
  pub inside : R old.value e value
