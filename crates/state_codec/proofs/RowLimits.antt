-- The limits of a value object fit 32 bits.
use Rattle.std.proofs.Common.{ℕ, pos, Option, Some, None, inl, inr, sym, subst, arith}
use Rattle.bac_values.specs.declared.object_kind.ObjectKind.{ObjectKind}
use Rattle.bac_values.specs.declared.object_kind.ObjectKind.TheVariants.{IntegerValue, PositiveIntegerValue}
use Rattle.object_table.specs.Objects.{IsRow, KeepsAlarmKeys, KeepsLimits, LacksLimits}
use Rattle.object_table.specs.Properties.{kind_in}
use Rattle.object_table.specs.declared.object_site.ObjectSite.{ObjectSite}
use Rattle.object_table.specs.declared.row.Row.{Row}
use Rattle.state_codec.specs.WritingSteps.{AreLimits, IsLimit}

zero_fits : IsLimit (pos 0)
zero_fits = inl (grind arith)

none : (site : ObjectSite) → LacksLimits site → AreLimits site
none site lacks = (subst IsLimit (sym lacks.high) zero_fits, subst IsLimit (sym lacks.low) zero_fits)

kept : (kind : Option ObjectKind) (site : ObjectSite) → KeepsLimits kind site → AreLimits site
kept (Some IntegerValue) site keeps = (inl keeps.high, inl keeps.low)
kept (Some PositiveIntegerValue) site keeps = (inr keeps.high, inr keeps.low)
kept _ site keeps = none site keeps

of_class : (kind : Option ObjectKind) (class : Option ℕ) (site : ObjectSite) → KeepsAlarmKeys kind class site → AreLimits site
of_class kind (Some class) site keys = kept kind site keys.limits
of_class kind None site keys = none site keys.limits

pub row_limits : (row : Row) → IsRow row → AreLimits row.site
row_limits row is = of_class (kind_in row.site) row.site.class row.site is.site.alarm
