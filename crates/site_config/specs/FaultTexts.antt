-- How a status tells why a text is no site.
use Rattle.std.specs.Prelude.{ℕ, List, ◌++◌, codes}
use Rattle.std.specs.Fmt.{decimal}
use Rattle.script_lines.specs.Report.{object_text}
use Rattle.site_config.specs.declared.fault.Counted.{Counted}
use Rattle.site_config.specs.declared.fault.Counted.TheVariants.{Section, Records, Notes}
use Rattle.site_config.specs.declared.fault.SitePlace.{SitePlace}
use Rattle.site_config.specs.declared.fault.SiteFault.{SiteFault}
use Rattle.site_config.specs.declared.fault.SiteFault.TheVariants.{TooLong, NotToml, Unknown, Missing, BadValue, Duplicate, Dangling, TooMany, NoMemory}
use Rattle.site_config.specs.Sections.{section_name}

-- the section, the item and the key
abbrev pub place_text : SitePlace → List ℕ
place_text place = section_name place.section ++ (codes " " ++ (decimal place.item ++ (codes " " ++ place.key)))

abbrev pub counted_text : Counted → List ℕ
counted_text (Section section) = section_name section
counted_text Records = codes "records"
counted_text Notes = codes "notes"

abbrev pub fault_text : SiteFault → List ℕ
fault_text TooLong = codes "site refused: too-long"
fault_text NotToml = codes "site refused: not-toml"
fault_text (Unknown place) = codes "site refused: unknown " ++ place_text place
fault_text (Missing place) = codes "site refused: missing " ++ place_text place
fault_text (BadValue place) = codes "site refused: bad-value " ++ place_text place
fault_text (Duplicate object) = codes "site refused: duplicate " ++ object_text object
fault_text (Dangling object) = codes "site refused: dangling " ++ object_text object
fault_text (TooMany what) = codes "site refused: too-many " ++ counted_text what
fault_text NoMemory = codes "no memory"
