-- Calls of the value inside a box, seen at the box.
use Rattle.std.proofs.Common.{◌≡◌, refl, sym, subst}
use Rattle.std.specs.declared.dyn_box.DynBox.{DynBox}
use Rattle.checker_parts.specs.Boxes.{InBox}

-- what a call did to the value inside, seen at the box
pub in_box : {V A E : Type 0} {F : V → Type 0} (old : DynBox V A F) (R : (o : (v : V) × F v) → E → F o.0 → Type 0) (e : E)
    (object : (v : V) × F v) → ◌≡◌ {A = (v : V) × F v} object (old.vtable, old.value) → (w : F object.0) → R object e w →
    InBox old (λ x. R (old.vtable, x)) e (record { ptr = old.ptr; vtable = object.0; alloc = old.alloc; value = w })
in_box {V} {A} {E} {F} old R e object same =
    let P : ((v : V) × F v) → Type 0 = λ o. (w : F o.0) → R o e w → InBox old (λ x. R (old.vtable, x)) e (record { ptr = old.ptr; vtable = o.0; alloc = old.alloc; value = w }) in
    subst P (sym same) (λ w r. record { value = w; same_box = refl; inside = r })

-- what a look at the value inside says, at the box
pub at_box : {V A : Type 0} {F : V → Type 0} (old : DynBox V A F) (P : (v : V) × F v → Type 0) (object : (v : V) × F v) →
    ◌≡◌ {A = (v : V) × F v} object (old.vtable, old.value) → P object → P (old.vtable, old.value)
at_box {V} {A} {F} old P object same = subst P same
