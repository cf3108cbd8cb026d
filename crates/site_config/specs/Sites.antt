-- Which site a text is, or its first fault.
use Rattle.std.specs.Prelude.{ℕ, nat_lt, Option, Some, None, List, [], map, filter, fold, length, Result, Ok, Err, if◌then◌else◌}
use Rattle.bac_values.specs.Limits.{most_site_octets}
use Rattle.std.specs.BTreeMap.{insert_entry}
use Rattle.std.specs.Map.{values_of}
use Rattle.std.specs.Str.{is_utf8}
use Rattle.toml.specs.Data.{Members}
use Rattle.toml.specs.Parse.{parse_document}
use Rattle.bac_values.specs.Identifier.{ObjectIdData}
use Rattle.bac_values.specs.Orders.{identifier_order}
use Rattle.notify_class.specs.Recipients.{DestinationData}
use Rattle.notify_class.specs.declared.binding.Binding.{Binding}
use Rattle.notify_class.specs.declared.class_site.ClassSite.{ClassSite}
use Rattle.alarm_core.specs.declared.site.Site.{Site}
use Rattle.site_config.specs.declared.binding_item.BindingItem.{BindingItem}
use Rattle.site_config.specs.declared.class.ClassItem.{ClassItem}
use Rattle.site_config.specs.declared.destination.DestinationSite.{DestinationSite}
use Rattle.site_config.specs.declared.draft.Draft.{Draft}
use Rattle.site_config.specs.declared.fault.Counted.TheVariants.{Notes}
use Rattle.site_config.specs.declared.fault.SiteFault.{SiteFault}
use Rattle.site_config.specs.declared.fault.SiteFault.TheVariants.{TooLong, NotToml, Duplicate, Dangling, TooMany}
use Rattle.toml_items.specs.Answers.{◌>>=◌}
use Rattle.site_config.specs.Drafts.{draft_of}
use Rattle.site_config.specs.Identifiers.{id_of_class, id_of_object, id_of_enrollment, id_of_log, id_of_binding, identifiers, least_twice}
use Rattle.site_config.specs.Limits.{names_class, limits_of}
use Rattle.site_config.specs.Notes.{members_of, notes_of}
use Rattle.site_config.specs.References.{least_dangling}

-- ---- what is looked for once every item is read

abbrev pub duplicate_of : Option ObjectIdData → Result (Unit {0}) SiteFault
duplicate_of None = Ok tt
duplicate_of (Some object) = Err (Duplicate object)

abbrev pub dangling_of : Option ObjectIdData → Result (Unit {0}) SiteFault
dangling_of None = Ok tt
dangling_of (Some object) = Err (Dangling object)

abbrev pub notes_fit : Draft → Result (Unit {0}) SiteFault
notes_fit draft = if nat_lt draft.device.outbox (notes_of draft.destinations (members_of draft)) then Err (TooMany Notes) else Ok tt

-- in this order: limits, identifiers that are given twice, references, notifications
unfoldable pub verdict_on : Draft → Result (Unit {0}) SiteFault
verdict_on draft = do
  limits ← limits_of draft
  identifiers ← duplicate_of (least_twice (identifiers draft))
  references ← dangling_of (least_dangling draft)
  notes_fit draft

-- ---- the site

-- items in the ascending order of their identifiers
abbrev pub put : {A : Type 0} → (A → ObjectIdData) → List (ObjectIdData × A) → A → List (ObjectIdData × A)
put id_of entries x = insert_entry identifier_order entries (id_of x) x

abbrev pub in_order : {A : Type 0} → (A → ObjectIdData) → List A → List A
in_order id_of xs = values_of (fold (put id_of) [] xs)

-- a class with its destinations, in the order of the text
abbrev pub recipient_of : DestinationSite → DestinationData
recipient_of site = site.destination

abbrev pub destinations_of : ℕ → List DestinationSite → List DestinationData
destinations_of class destinations = map recipient_of (filter (names_class class) destinations)

abbrev pub with_destinations : List DestinationSite → ClassItem → ClassSite
with_destinations destinations item =
    record { name = item.name; class = record { instance = item.object.instance; priority = item.priority; ack_required = item.ack_required; destinations = destinations_of item.object.instance destinations } }

-- where a device is
abbrev pub bound : BindingItem → Binding
bound item = record { device = item.object.instance; peer = item.peer }

abbrev pub site_of_draft : Draft → Site
site_of_draft draft =
    record {
      device = draft.device;
      classes = map (with_destinations draft.destinations) (in_order id_of_class draft.classes);
      objects = in_order id_of_object draft.objects;
      enrollments = in_order id_of_enrollment draft.enrollments;
      logs = in_order id_of_log draft.logs;
      bindings = map bound (in_order id_of_binding draft.bindings);
    }

-- the site of a document: the sections, then what is looked for across them
unfoldable pub site_of_document : Members → Result Site SiteFault
site_of_document document = do
  draft ← draft_of document
  verdict ← verdict_on draft
  Ok (site_of_draft draft)

-- the document that a text is
abbrev pub document_of : List ℕ → Option Members
document_of text = if is_utf8 text then parse_document text else None

abbrev pub site_or_no_toml : Option Members → Result Site SiteFault
site_or_no_toml None = Err NotToml
site_or_no_toml (Some document) = site_of_document document

-- the site of a text, or its first fault
unfoldable pub site_of : List ℕ → Result Site SiteFault
site_of text = if nat_lt most_site_octets (length text) then Err TooLong else site_or_no_toml (document_of text)
