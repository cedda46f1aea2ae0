-- What an edit of the code does to a cell, and what brings the cell back.
use Rattle.std.specs.Prelude.{◌+◌, ◌-◌, Bool, true, Option, None, Some}
use Rattle.std.specs.Option.{option_and_then}
use Rattle.sync_data.specs.declared.instr.Instr.{Instr}
use Rattle.sync_data.specs.declared.instr.Instr.TheVariants as instrs
use Rattle.sync_base.specs.States.{Cell}
use Rattle.sync_base.specs.Effects as effects
use Rattle.sync_base.specs.Effects.{is_placed}
use Rattle.sync_base.specs.After.{edited}
use Rattle.sync_cells.specs.declared.edit.Edit.{Edit}
use Rattle.sync_cells.specs.declared.edit.Edit.TheVariants as edits
use Rattle.sync_cells.specs.declared.edit.Former.{Former}
use Rattle.sync_cells.specs.declared.edit.Former.TheVariants as formers
use Rattle.sync_cells.specs.Contents.{content_seen}

-- the cell after an edit
abbrev pub done : Edit → Cell → Cell
done (edits.Set v) x = edited (effects.Set v) x
done (edits.Add n) x = edited (effects.Add n) x
done (edits.Replace s v) x = edited (effects.Replace s v) x
done (edits.Insert s v) x = edited (effects.Insert s v) x
done (edits.Remove s) x = edited (effects.Remove s) x
done (edits.Include v) x = edited (effects.Include v) x
done (edits.Exclude v) x = edited (effects.Exclude v) x
done (edits.Bind k v) x = edited (effects.Bind k v) x
done edits.Empty x = edited effects.Empty x
done (edits.Restore c) x = content_seen c

-- its place lies in the list that it names
abbrev pub has_place : Edit → Bool
has_place (edits.Replace s v) = is_placed (effects.Replace s v)
has_place (edits.Insert s v) = is_placed (effects.Insert s v)
has_place (edits.Remove s) = is_placed (effects.Remove s)
has_place e = true

-- the edit that brings the cell back, from what the edit took out; none where nothing changed
abbrev pub inverse : Edit → Former → Option Edit
inverse (edits.Set v) (formers.Value w) = Some (edits.Set w)
inverse (edits.Add n) (formers.Value w) = Some (edits.Set w)
inverse (edits.Replace s v) (formers.Value w) = Some (edits.Replace s w)
inverse (edits.Insert s v) f = Some (edits.Remove (record { place = s.place; prior = s.prior + 1 }))
inverse (edits.Remove s) (formers.Value w) = Some (edits.Insert (record { place = s.place; prior = s.prior - 1 }) w)
inverse (edits.Include v) (formers.Changed true) = Some (edits.Exclude v)
inverse (edits.Exclude v) (formers.Changed true) = Some (edits.Include v)
inverse (edits.Bind k v) (formers.Binding w) = Some (edits.Bind k w)
inverse edits.Empty (formers.Content c) = Some (edits.Restore c)
inverse (edits.Restore d) (formers.Content c) = Some (edits.Restore c)
inverse e f = None

abbrev pub done_if : Option Edit → Cell → Cell
done_if None x = x
done_if (Some e) x = done e x

-- the cell before an edit, from the cell after it
abbrev pub undone : Edit → Former → Cell → Cell
undone e f x = done_if (inverse e f) x

-- the edit of an instruction that changes a cell
abbrev pub edit_of : Instr → Option Edit
edit_of (instrs.Update i) = Some (edits.Set i.value)
edit_of (instrs.AddInteger i) = Some (edits.Add i.amount)
edit_of (instrs.ListUpdate i) = Some (edits.Replace i.spot i.value)
edit_of (instrs.ListInsert i) = Some (edits.Insert i.spot i.value)
edit_of (instrs.ListErase i) = Some (edits.Remove i.spot)
edit_of (instrs.SetInsert i) = Some (edits.Include i.value)
edit_of (instrs.SetErase i) = Some (edits.Exclude i.value)
edit_of (instrs.DictUpdate i) = Some (edits.Bind i.at i.value)
edit_of (instrs.Clear i) = Some edits.Empty
edit_of i = None

abbrev pub inverse_at : Instr → Former → Option Edit
inverse_at i f = option_and_then (λ e. inverse e f) (edit_of i)
