-- Objects of JSON, as they are made.
use Rattle.serde_json.specs.Data.{Members}
use Rattle.serde_json.specs.View.{members_view}
use Rattle.radio_listing.specs.declared.object.Object.{Object}

-- the members that an object has so far
abbrev pub members_in : Object → Members
members_in object = members_view object.members.entries
