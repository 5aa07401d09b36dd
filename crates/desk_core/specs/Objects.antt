-- The designations, the principals, the verdicts and the numbers that the office keeps.
use Rattle.std.specs.Prelude.{◌≡◌, ℕ, ◌+◌, ◌≤◌, List}
use Rattle.ordered_list.specs.Contents.{UsesOne}
use Rattle.designate_core.specs.Takes.{RowAct}
use Rattle.identify_core.specs.declared.link.Link.{Link}
use Rattle.identify_core.specs.Principals.{StandFor as LinksStandFor}
use Rattle.numbering_core.specs.declared.numbering.Numbering.{Numbering}
use Rattle.numbering_core.specs.declared.verdict.Verdict.{Verdict}
use Rattle.numbering_core.specs.Verdicts.{StandFor as VerdictsStandFor}
use Rattle.tracklet_file.specs.Contents.{Contents}
use Rattle.act_model.specs.declared.deed.Deed.{Deed}
use Rattle.act_model.specs.Designations.{row_acts_of, links_of}
use Rattle.act_model.specs.Verdicts.{verdicts_of}
use Rattle.act_model.specs.Numbers.{numbers_of}
use Rattle.object_rules.specs.Noting.{RowsDeed, LinksDeed, TouchesDeed, NumbersDeed, linked_by}
use Rattle.object_rules.specs.Noting.{registered_by, returned_by}

-- what is kept, and for how many more acts on the rows, links and entries of the register there is room
pub record ObjectsValue : Type 0 where
  pub acts : List RowAct
  pub links : List Link
  pub verdicts : List Verdict
  pub numbered : List Numbering
  pub row_room : ℕ
  pub link_room : ℕ
  pub register_room : ℕ

-- it stands for deeds, the newest first
pub record StandFor (past : List Deed) (o : ObjectsValue) : Type 0 where
  pub acts : o.acts ≡ row_acts_of past
  pub links : LinksStandFor o.links (links_of past)
  pub verdicts : VerdictsStandFor o.verdicts (verdicts_of past)
  pub numbered : o.numbered ≡ numbers_of past

-- what a deed asks of what is kept
pub record HoldsObjects (deed : Deed) (file : Contents) (o : ObjectsValue) : Type 0 where
  pub rows : RowsDeed o.acts deed
  pub links : LinksDeed o.links deed
  pub touches : TouchesDeed file.tracklets deed
  pub numbers : NumbersDeed o.numbered deed

-- there is room for a deed
pub record HasRoom (deed : Deed) (o : ObjectsValue) : Type 0 where
  pub rows : 1 ≤ o.row_room
  pub links : linked_by deed ≤ o.link_room
  pub register : registered_by deed ≤ o.register_room

-- what it used of it, and gave back: no memory was taken
pub record UsesObjects (deed : Deed) (old new : ObjectsValue) : Type 0 where
  pub rows : UsesOne old.row_room new.row_room
  pub links : old.link_room ≤ new.link_room + linked_by deed
  pub no_more_links : new.link_room ≤ old.link_room
  pub register : old.register_room ≤ new.register_room + registered_by deed
  pub no_more_register : new.register_room ≤ old.register_room + returned_by deed
